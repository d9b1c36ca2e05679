-- The widths of a component's counters, in bits.
use Rattle.std.specs.Prelude.{ℕ, ◌<◌, ◌≤◌, List, length, slice_index}
use Rattle.papi_base.specs.declared.limits.TheConstants.{LEAST_WIDTH, MOST_WIDTH}

-- each is from the narrowest to the widest
pub record AreWidths (widths : List ℕ) : Type 0 where
  pub low : (k : ℕ) → k < length widths → LEAST_WIDTH ≤ slice_index widths k
  pub high : (k : ℕ) → k < length widths → slice_index widths k ≤ MOST_WIDTH
