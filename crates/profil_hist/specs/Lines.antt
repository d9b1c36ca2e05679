-- What one row of a map says, by itself. The file format is this project's own.
use Rattle.std.specs.Prelude.{⊤, ◌&&◌, ◌==◌, ◌+◌, ◌*◌, ◌^◌, ℕ, Bool, List, length, drop, Option, None, unwrap_or, if◌then◌else◌, nat_eq, nat_le, codes}
use Rattle.std.specs.List.{starts_with}
use Rattle.std.specs.Option.{option_map_or}
use Rattle.std.specs.Str.{bytes_eq}
use Rattle.table_rows.specs.Texts.{Text, decimal_in, hex_in, is_name, is_skipped, text_at}
use Rattle.profil_hist.specs.Ranges.{RangeText, IsRange}
use Rattle.profil_hist.specs.declared.limits.TheConstants.{MOST_BUCKETS, MOST_BUCKET_ADDRESSES}
use Rattle.profil_hist.specs.declared.row.Row.{Row}
use Rattle.profil_hist.specs.declared.row.Row.TheVariants as row

-- a row by its kind; a row that does not have the form of a range is `bad`
pub data Line : Type 0 where
  skipped : Line
  bad : Line
  range : RangeText → Line

-- `0x` and 1 to 16 hexadecimal digits
unfoldable pub address_in : Text → Option ℕ
address_in t = if starts_with nat_eq t (codes "0x") then hex_in 1 16 (drop 2 t) else None

-- the range ends at most at 2^64
abbrev pub fits : ℕ → ℕ → ℕ → Bool
fits start width buckets = nat_le (start + width * buckets) (2 ^ 64)

-- a range of these parts
abbrev pub range_of : Text → ℕ → ℕ → ℕ → RangeText
range_of name start width buckets = record { name = name; start = start; width = width; buckets = buckets }

-- a RANGE row with these fields
abbrev pub range_line : Text → Text → Text → Text → Line
range_line name start width buckets =
    option_map_or (λ s. option_map_or (λ w. option_map_or (λ b. if fits s w b && is_name name then range (range_of name s w b) else bad)
    (decimal_in 1 MOST_BUCKETS buckets) bad) (decimal_in 1 MOST_BUCKET_ADDRESSES width) bad) (address_in start) bad

-- what a row with these fields says
unfoldable pub line_of : List Text → Line
line_of fields =
    let first = text_at fields 0 in
    if is_skipped first then skipped
    else if bytes_eq first (codes "RANGE") && (length fields == 5) then range_line (text_at fields 1) (text_at fields 2) (text_at fields 3) (text_at fields 4)
    else bad

-- what a row keeps, by itself
abbrev pub IsLine : Line → Type 0
IsLine (range r) = IsRange r
IsLine line = ⊤

-- what a row that was read says
abbrev pub row_line : Row → Line
row_line row.Skipped = skipped
row_line row.Bad = bad
row_line (row.Range name start width buckets) = range (range_of name.now start width buckets)

-- what a row says that has the form of a range or not
abbrev pub line_or_bad : Option Row → Line
line_or_bad o = row_line (unwrap_or o row.Bad)
