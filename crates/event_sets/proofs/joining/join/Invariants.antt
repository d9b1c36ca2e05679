-- what is left joins those so far as all join the first ones
use Rattle.event_sets.proofs.Words.{◌≡◌, drop, joined_by}
use Rattle.event_sets.proofs.joining.join.Given as goal

abbrev pub invariant-loop-i : goal.invariant-loop-i
invariant-loop-i l = joined_by l.natives (drop l.i l.more) ≡ joined_by l.fn.natives l.more
