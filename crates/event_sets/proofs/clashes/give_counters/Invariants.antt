-- the native events so far have counters of their own
use Rattle.event_sets.proofs.Words.{◌≡◌, take, Assignable, masks_of}
use Rattle.event_sets.proofs.clashes.give_counters.Given as goal

abbrev pub invariant-loop-i : goal.invariant-loop-i
invariant-loop-i l = record {
  counters : l.matching.counters ≡ l.fn.matching.counters;
  allowed : l.matching.allowed ≡ masks_of (take l.i l.natives);
  assignable : Assignable l.matching.allowed;
}
