-- The ranges of a map's rows, and the first fault. The file format is this project's own.
use Rattle.std.specs.Prelude.{◌≡◌, ◌||◌, ◌+◌, ℕ, List, [], ◌∷◌, length, map, Option, Some, None, Result, if◌then◌else◌, nat_le, nat_lt, codes}
use Rattle.std.specs.List.{list_any}
use Rattle.std.specs.Str.{bytes_eq}
use Rattle.table_rows.specs.Rows.{rows_of}
use Rattle.table_rows.specs.Tables.{ReadsTable, first_fault}
use Rattle.table_rows.specs.Texts.{Text}
use Rattle.profil_hist.specs.Lines.{Line, skipped, bad, range, line_of}
use Rattle.profil_hist.specs.Ranges.{RangeText, buckets_in_all, overlaps}
use Rattle.profil_hist.specs.declared.fault.MapCause.{MapCause}
use Rattle.profil_hist.specs.declared.fault.MapCause.TheVariants as cause
use Rattle.table_rows.specs.declared.fault.RowFault.{RowFault}
use Rattle.profil_hist.specs.declared.map.Map.{Map}
use Rattle.profil_hist.specs.declared.limits.TheConstants.{MOST_BUCKETS, MOST_RANGES}

-- the ranges of some rows
unfoldable pub ranges_in : List Line → List RangeText
ranges_in [] = []
ranges_in (range r ∷ rest) = r ∷ ranges_in rest
ranges_in (line ∷ rest) = ranges_in rest

-- the cause of a row, in view of the ranges above it; the causes are tried in the order of `MapCause`
abbrev pub range_cause : List RangeText → RangeText → Option MapCause
range_cause above r =
    if nat_le MOST_RANGES (length above) || nat_lt MOST_BUCKETS (buckets_in_all above + r.buckets) then Some cause.OverLimit
    else if list_any (λ o. bytes_eq o.name r.name) above then Some cause.RepeatedName
    else if list_any (λ o. overlaps o r) above then Some cause.Overlap
    else None

-- why a row is refused below these ranges, if it is
abbrev pub cause_in : List RangeText → Line → Option MapCause
cause_in above skipped = None
cause_in above bad = Some cause.BadRow
cause_in above (range r) = range_cause above r

-- the cause of a row below these rows, if it has one
abbrev pub row_cause : List Line → Line → Option MapCause
row_cause above line = cause_in (ranges_in above) line

-- what each row of a map says
abbrev pub lines_of : List ℕ → List Line
lines_of bytes = map line_of (rows_of bytes)

-- ---- what a caller gets

-- the first faulty row of a map, from 1, and its first cause
unfoldable pub map_fault : List ℕ → Option (ℕ × MapCause)
map_fault bytes = first_fault row_cause [] (lines_of bytes)

-- the ranges of a map that has no faulty row
unfoldable pub map_ranges : List ℕ → List RangeText
map_ranges bytes = ranges_in (lines_of bytes)

-- the ranges if no row is faulty, or the first fault, or out of memory
abbrev pub ReadsMap : Result Map (RowFault MapCause) → List ℕ → Type 0
ReadsMap result bytes = ReadsTable (map_fault bytes) (λ ranges. ranges ≡ map_ranges bytes) result

-- a cause as it is written on the line that names it
abbrev pub cause_text : MapCause → Text
cause_text cause.BadRow = codes "bad row"
cause_text cause.OverLimit = codes "over a limit"
cause_text cause.RepeatedName = codes "repeated name"
cause_text cause.Overlap = codes "ranges overlap"
