-- The totals of a thread's regions as they are kept: one for each name, changed at each line that ends an instance.
use Rattle.std.specs.Prelude.{◌&&◌, ◌==◌, ◌+◌, ◌++◌, ℕ, zero, suc, ℤ, Bool, List, [], ◌∷◌, Option, Some, None, count_by, if◌then◌else◌, position}
use Rattle.std.specs.Int.{int_wrapping_add, w64}
use Rattle.std.specs.Str.{bytes_eq}
use Rattle.table_rows.specs.Texts.{Text}
use Rattle.region_report.specs.Reports.{ends, is_end, name_of, total, total_text}
use Rattle.region_report.specs.Spans.{Span, pairwise}
use Rattle.region_report.specs.declared.totals.RegionTotal.{RegionTotal}

-- how many instances a region has, and what they counted in all
abbrev pub total_of : ℕ → ℕ → List Span → Text → RegionTotal
total_of events thread spans name = record { instances = count_by (ends thread name) spans; values = total events thread name spans }

-- with one instance more
abbrev pub with_instance : List ℤ → RegionTotal → RegionTotal
with_instance values t = record { instances = t.instances + 1; values = pairwise (int_wrapping_add w64) t.values values }

-- an instance of some region of a thread ends here
abbrev pub ends_one : ℕ → Span → Bool
ends_one thread s = (s.line.thread == thread) && is_end s.line.call

-- the place of the region of which an instance ends here
abbrev pub place_of : List Text → ℕ → Span → Option ℕ
place_of names thread s = if ends_one thread s then position (bytes_eq (name_of s.line.call)) names else None

-- the totals with one instance more of the region at a place, if there is one
abbrev pub changed : ℕ → List ℤ → List RegionTotal → List RegionTotal
changed place values [] = []
changed zero values (t ∷ ts) = with_instance values t ∷ ts
changed (suc place) values (t ∷ ts) = t ∷ changed place values ts

-- the totals as they are after a line, of which the place is that of the region that it ends, if it ends one
abbrev pub with_instance_at : Option ℕ → List ℤ → List RegionTotal → List RegionTotal
with_instance_at None values totals = totals
with_instance_at (Some place) values totals = changed place values totals

-- the lines of regions with these names and totals
abbrev pub totals_text : ℕ → List Text → List RegionTotal → Text
totals_text thread [] totals = []
totals_text thread (name ∷ names) [] = []
totals_text thread (name ∷ names) (t ∷ ts) = total_text thread name t.instances t.values ++ totals_text thread names ts
