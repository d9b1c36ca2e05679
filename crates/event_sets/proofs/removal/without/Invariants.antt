-- those so far without the one at the place
use Rattle.std.proofs.Common.{◌≡◌, ◌≤◌, length, remove, take}
use Rattle.event_sets.proofs.removal.without.Given as goal

abbrev pub invariant-loop-i : goal.invariant-loop-i
invariant-loop-i g l = record {
  few : length l.left ≤ l.i;
  so_far : l.left ≡ remove (take l.i l.items) l.place;
}
