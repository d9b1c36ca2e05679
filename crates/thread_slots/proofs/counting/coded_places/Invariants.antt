-- if at most one place so far has the select code, it is the one that is kept
use Rattle.thread_slots.proofs.Words.{ℕ, ◌≡◌, ◌<◌, ◌≤◌, Some, slice_get, Native}
use Rattle.thread_slots.proofs.counting.coded_places.Given as goal

abbrev pub invariant-loop-i : goal.invariant-loop-i
invariant-loop-i l = record {
  lower : l.places.first ≤ l.place;
  none : l.found ≡ 0 → l.place ≡ l.places.first;
  some : 0 < l.found → l.place < l.i;
  few : l.found ≤ l.i;
  one : (k : ℕ) (n : Native) → l.found ≤ 1 → l.places.first ≤ k → k < l.i → slice_get l.natives k ≡ Some n → n.select ≡ l.select → (k ≡ l.place) × (0 < l.found);
}
