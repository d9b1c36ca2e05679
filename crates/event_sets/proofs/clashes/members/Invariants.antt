-- the members so far, with those of the places that are left, are all
use Rattle.event_sets.proofs.Words.{◌≡◌, ◌≤◌, ◌++◌, length, drop, members_from}
use Rattle.event_sets.proofs.clashes.members.Given as goal

abbrev pub invariant-loop-i : goal.invariant-loop-i
invariant-loop-i l = record {
  few : length l.members ≤ l.i;
  rest : l.members ++ members_from l.places l.i (drop l.i l.natives) ≡ members_from l.places 0 l.natives;
}
