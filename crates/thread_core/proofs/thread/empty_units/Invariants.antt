use Rattle.thread_core.proofs.Words.{◌++◌, map, empty_unit, drop, ◌≡◌, ℕ, List, ◌<◌, slice_get, Some, length, ◌≤◌, AreWidths, vec_capacity, vec_len}
use Rattle.thread_core.proofs.thread.empty_units.Given as goal

abbrev pub invariant-loop-comp : goal.invariant-loop-comp
invariant-loop-comp l = record {
  done : l.units.items ++ map empty_unit (drop l.comp l.shape) ≡ map empty_unit l.shape;
  len : vec_len l.units ≡ l.comp;
  room : 16 ≤ vec_capacity l.units;
  few : (c : ℕ) (widths : List ℕ) → c < l.comp → slice_get l.shape c ≡ Some widths → length widths ≤ 32;
  widths : (c : ℕ) (widths : List ℕ) → c < l.comp → slice_get l.shape c ≡ Some widths → AreWidths widths;
}
