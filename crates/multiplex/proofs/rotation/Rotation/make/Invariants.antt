-- the numbers so far, with those of the places that are left, are those of all
use Rattle.multiplex.proofs.Words.{ℕ, ◌≡◌, ◌<◌, ◌≤◌, ◌+◌, ◌++◌, get_or, length, drop, AreMasks, masks_of, groups_from, groups, group_count}
use Rattle.multiplex.proofs.Words.{AreOrdered}
use Rattle.multiplex.proofs.rotation.Rotation.make.Given as goal

abbrev pub invariant-loop-i : goal.invariant-loop-i
invariant-loop-i l = record {
  counters : l.group.counters ≡ l.counters;
  few : length l.group.allowed ≤ l.i;
  masks : AreMasks l.group.allowed;
  number : l.number ≤ l.i;
  below : (k : ℕ) → k < length l.numbers → get_or l.numbers k 0 ≤ l.number;
  ordered : AreOrdered l.numbers;
  placed : length l.numbers ≡ l.i;
  last : 0 < l.i → group_count l.numbers ≡ l.number + 1;
  rest : l.numbers ++ groups_from l.group.allowed l.number (drop l.i (masks_of l.natives)) ≡ groups (masks_of l.natives);
}
