use Rattle.thread_slots.proofs.Words.{◌≡◌, drop, threshold_among}
use Rattle.thread_slots.proofs.starting.threshold_on.Given as goal

abbrev pub invariant-loop-i : goal.invariant-loop-i
invariant-loop-i l = threshold_among l.book l.n (drop l.i l.set.rest.events) (drop l.i l.set.rest.thresholds) ≡ threshold_among l.book l.n l.set.rest.events l.set.rest.thresholds
