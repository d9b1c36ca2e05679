use Rattle.script_runner.proofs.Words.{◌≡◌, ◌<◌, ◌≤◌, ℕ, List, length, slice_get, Some, AreWidths}
use Rattle.script_runner.proofs.fitting.shape_fits.Given as goal

abbrev pub invariant-loop-comp : goal.invariant-loop-comp
invariant-loop-comp l = record {
  few : (c : ℕ) (widths : List ℕ) → c < l.comp → slice_get l.shape c ≡ Some widths → length widths ≤ 32;
  widths : (c : ℕ) (widths : List ℕ) → c < l.comp → slice_get l.shape c ≡ Some widths → AreWidths widths;
}
