-- What was counted in a region from its begin on, out of the readings at the lines that begin, read and end regions.
use Rattle.std.specs.Prelude.{◌+◌, ◌==◌, ℕ, ℤ, Bool, List, [], ◌∷◌, if◌then◌else◌, map, slice_index_or}
use Rattle.std.specs.Int.{int_wrapping_sub, w64}
use Rattle.std.specs.List.{list_any}
use Rattle.region_report.specs.Lines.{is_reading}
use Rattle.region_report.specs.declared.regions.RegionLine.{RegionLine}
use Rattle.region_report.specs.declared.reports.Reading.{Reading}
use Rattle.region_report.specs.declared.spans.LineSpan.{LineSpan}

-- two values at each place
unfoldable pub pairwise : (ℤ → ℤ → ℤ) → List ℤ → List ℤ → List ℤ
pairwise f [] ys = []
pairwise f (x ∷ xs) [] = []
pairwise f (x ∷ xs) (y ∷ ys) = f x y ∷ pairwise f xs ys

-- the values of a later reading less those of an earlier one, wrapped to signed 64 bits
abbrev pub difference : List ℤ → List ℤ → List ℤ
difference later earlier = pairwise (int_wrapping_sub w64) later earlier

-- a line that reads the counters, with what was counted in its region from its begin on
pub record Span : Type 0 where
  pub line : RegionLine
  pub values : List ℤ

-- the values of the reading of a number, from 0
abbrev pub values_at : List (List ℤ) → ℕ → List ℤ
values_at readings i = slice_index_or readings i []

-- the span of a line: its own reading, which is that of this number, less the reading at which its region began
abbrev pub span : List (List ℤ) → ℕ → RegionLine → Span
span readings i line = record { line = line; values = difference (values_at readings i) (values_at readings line.begun) }

-- the span of a line, if it reads the counters
abbrev pub spans_at : List (List ℤ) → ℕ → RegionLine → List Span
spans_at readings i line = if is_reading line then span readings i line ∷ [] else []

-- the lines that read the counters, of which the first has the reading of this number
unfoldable pub spans_from : List (List ℤ) → ℕ → List RegionLine → List Span
spans_from readings i [] = []
spans_from readings i (line ∷ lines) = if is_reading line then span readings i line ∷ spans_from readings (i + 1) lines else spans_from readings i lines

-- some span is of this thread
abbrev pub has_spans : List Span → ℕ → Bool
has_spans spans thread = list_any (λ s. s.line.thread == thread) spans

-- the values alone of readings that were taken
abbrev pub reading_values : List Reading → List (List ℤ)
reading_values readings = map (λ r. r.values) readings

-- as they are kept
abbrev pub span_text : LineSpan → Span
span_text s = record { line = s.line.now; values = s.values }
