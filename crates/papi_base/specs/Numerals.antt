-- Numbers as the text formats write them, in decimal and in hexadecimal: docs/FORMATS.md.
use Rattle.std.specs.Prelude.{◌&&◌, ◌||◌, ◌==◌, ℕ, Bool, true, false, not, List, [], ◌∷◌, length, Option, Some, None}
use Rattle.std.specs.Prelude.{if◌then◌else◌, nat_le, nat_lt, slice_index}
use Rattle.std.specs.List.{list_all}
use Rattle.std.specs.Char.{digit_value}
use Rattle.std.specs.Str.Parse.{digits_value}

-- the list has no item
abbrev pub is_empty : {X : Type 0} → List X → Bool
is_empty [] = true
is_empty (x ∷ xs) = false

-- the byte is a decimal digit
abbrev pub is_digit : ℕ → Bool
is_digit b = nat_le 48 b && nat_le b 57

-- one or more decimal digits
unfoldable pub is_numeral : List ℕ → Bool
is_numeral t = list_all is_digit t && not (is_empty t)

-- a decimal number without leading zeros
unfoldable pub is_decimal : List ℕ → Bool
is_decimal t = is_numeral t && ((length t == 1) || not (slice_index t 0 == 48))

-- the number that a text writes in decimal without leading zeros, if it is in a range
unfoldable pub decimal_in : ℕ → ℕ → List ℕ → Option ℕ
decimal_in low high t = if is_decimal t && (nat_le low (digits_value 10 t) && nat_le (digits_value 10 t) high) then Some (digits_value 10 t) else None

-- the byte is a hexadecimal digit
abbrev pub is_hex_digit : ℕ → Bool
is_hex_digit b = nat_lt (digit_value b) 16

-- the number of a text of hexadecimal digits, from `few` to `many` of them
unfoldable pub hex_in : ℕ → ℕ → List ℕ → Option ℕ
hex_in few many t = if list_all is_hex_digit t && (nat_le few (length t) && nat_le (length t) many) then Some (digits_value 16 t) else None

-- the bit of a flag
abbrev pub flag_bit : Bool → ℕ
flag_bit true = 1
flag_bit false = 0
