-- Hexadecimal digits and their number: this project's own stream format, docs/FORMATS.md.
use Rattle.std.specs.Prelude.{◌≡◌, ◌≤◌, ◌+◌, ◌*◌, ⊤, ℕ, Bool, true, false, List, [], ◌∷◌, take, drop, nat_le, not}
use Rattle.std.specs.Char.{digit_value}
use Rattle.std.specs.List.{list_all}
use Rattle.std.specs.Str.Parse.{digits_value}
use Rattle.papi_base.specs.Numerals.{is_hex_digit}
use Rattle.stream_reader.specs.declared.limits.TheConstants.{MOST_HEX_DIGITS}
use Rattle.stream_reader.specs.declared.field.Field.{Field}

-- the value of a digit, and not that of another byte
abbrev pub is_value : ℕ → Bool
is_value x = not (nat_le 16 x)

-- what a vector has for a byte: the value of a hexadecimal digit in either case, and 16 or more for another byte
pub record HasValue (b v : ℕ) : Type 0 where
  pub digit : is_hex_digit b ≡ true → v ≡ digit_value b
  pub other : is_hex_digit b ≡ false → 16 ≤ v

-- the same of each byte
unfoldable pub HaveValues : List ℕ → List ℕ → Type 0
HaveValues [] [] = ⊤
HaveValues [] (v ∷ vs) = ⊥
HaveValues (b ∷ bs) [] = ⊥
HaveValues (b ∷ bs) (v ∷ vs) = HasValue b v × HaveValues bs vs

-- the number whose digits are those of a number and then these values, the highest first
unfoldable pub number_after : ℕ → List ℕ → ℕ
number_after n [] = n
number_after n (x ∷ xs) = number_after (n * 16 + x) xs

-- n bytes from a place on
abbrev pub piece : ℕ → ℕ → List ℕ → List ℕ
piece place size t = take size (drop place t)

-- at most sixteen hexadecimal digits from a place on, and their number
pub record IsHexadecimal (t : List ℕ) (place : ℕ) (f : Field) : Type 0 where
  pub few : f.size ≤ MOST_HEX_DIGITS
  pub each : list_all is_hex_digit (piece place f.size t) ≡ true
  pub value : f.value ≡ digits_value 16 (piece place f.size t)
