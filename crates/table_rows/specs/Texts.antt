-- The texts of a table's fields; the numbers that they write are Numerals'.
use Rattle.std.specs.Prelude.{◌&&◌, ◌||◌, ◌==◌, ℕ, Bool, List, [], ◌∷◌, length, reverse, unwrap_or, if◌then◌else◌, nat_le, slice_index}
use Rattle.std.specs.List.{list_all, slice_get}
use Rattle.table_rows.specs.declared.limits.TheConstants.{LONGEST_NAME}
pub use Rattle.papi_base.specs.Numerals.{is_digit, is_empty, is_hex_digit}
unfoldable pub use Rattle.papi_base.specs.Numerals.{decimal_in, hex_in, is_decimal, is_numeral}

-- the bytes of a text
abbrev pub Text : Type 0
Text = List ℕ

-- a space or a tab
abbrev pub is_blank : ℕ → Bool
is_blank b = (b == 32) || (b == 9)

-- a text without the spaces and tabs that it begins with
unfoldable pub without_front : Text → Text
without_front [] = []
without_front (b ∷ rest) = if is_blank b then without_front rest else b ∷ rest

-- a text with no space or tab at either end
unfoldable pub trimmed : Text → Text
trimmed t = reverse (without_front (reverse (without_front t)))

-- the field at this place without spaces and tabs at its ends, and an empty text if the row has no such field
unfoldable pub text_at : List Text → ℕ → Text
text_at fields i = trimmed (unwrap_or (slice_get fields i) [])

-- the trimmed first field of a row that is numbered and passed over: it is empty, or begins with `#`
abbrev pub is_skipped : Text → Bool
is_skipped first = (length first == 0) || (slice_index first 0 == 35)

-- ---- names

-- a letter, a digit, `_` or `-`
abbrev pub is_name_byte : ℕ → Bool
is_name_byte b = (nat_le 48 b && nat_le b 57) || ((nat_le 65 b && nat_le b 90) || ((nat_le 97 b && nat_le b 122) || ((b == 95) || (b == 45))))

-- 1 to LONGEST_NAME letters, digits, `_` and `-`
unfoldable pub is_name : Text → Bool
is_name t = nat_le 1 (length t) && (nat_le (length t) LONGEST_NAME && list_all is_name_byte t)

-- a byte from a space to `~`
abbrev pub is_printable_byte : ℕ → Bool
is_printable_byte b = nat_le 32 b && nat_le b 126

-- all bytes are from a space to `~`
abbrev pub is_printable : Text → Bool
is_printable t = list_all is_printable_byte t
