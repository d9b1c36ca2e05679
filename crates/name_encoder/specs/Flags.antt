-- Flags as bits of a number.
use Rattle.std.specs.Prelude.{◌+◌, ◌*◌, ℕ, Bool, List, [], ◌∷◌}
pub use Rattle.papi_base.specs.Numerals.{flag_bit}

-- the first flag as bit 0
unfoldable pub bits_of : List Bool → ℕ
bits_of [] = 0
bits_of (b ∷ rest) = flag_bit b + 2 * bits_of rest
