-- one of those that are left has a threshold on it if one of all does
use Rattle.event_sets.proofs.Words.{◌≡◌, drop, armed_elsewhere}
use Rattle.event_sets.proofs.thresholds.is_armed_elsewhere.Given as goal

abbrev pub invariant-loop-i : goal.invariant-loop-i
invariant-loop-i l = armed_elsewhere l.book l.e l.n (drop l.i l.set.rest.events) (drop l.i l.set.rest.thresholds) ≡ armed_elsewhere l.book l.e l.n l.set.rest.events l.set.rest.thresholds
