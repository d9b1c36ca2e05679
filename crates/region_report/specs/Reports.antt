-- The report of a region script: this project's own text, docs/FORMATS.md.
use Rattle.std.specs.Prelude.{◌&&◌, ◌==◌, ℕ, ℤ, pos, Bool, true, false, List, [], ◌∷◌, ◌++◌, codes, count_by, decimal, fold, if◌then◌else◌, replicate}
use Rattle.std.specs.Fmt.{signed_decimal}
use Rattle.std.specs.Int.{int_wrapping_add, w64}
use Rattle.std.specs.List.{flat_map, list_any, range_with_len}
use Rattle.std.specs.Str.{bytes_eq}
use Rattle.papi_base.specs.declared.limits.TheConstants.{THREADS}
use Rattle.table_rows.specs.Texts.{Text}
use Rattle.region_report.specs.Spans.{Span, pairwise}
use Rattle.region_report.specs.declared.regions.RegionCall.{RegionCall}
use Rattle.region_report.specs.declared.regions.RegionCall.TheVariants as call

-- the region that a call names; a `run` names none
abbrev pub name_of : RegionCall → Text
name_of (call.Begin name) = name
name_of (call.Read name) = name
name_of (call.End name) = name
name_of (call.Run count) = []

-- a call that begins an instance of a region: PAPI_hl_region_begin(3)
abbrev pub is_begin : RegionCall → Bool
is_begin (call.Begin name) = true
is_begin (call.Read name) = false
is_begin (call.End name) = false
is_begin (call.Run count) = false

-- a call that reads within a region: PAPI_hl_read(3)
abbrev pub is_read : RegionCall → Bool
is_read (call.Begin name) = false
is_read (call.Read name) = true
is_read (call.End name) = false
is_read (call.Run count) = false

-- a call that ends an instance of a region: PAPI_hl_region_end(3)
abbrev pub is_end : RegionCall → Bool
is_end (call.Begin name) = false
is_end (call.Read name) = false
is_end (call.End name) = true
is_end (call.Run count) = false

-- each value after a space
abbrev pub values_text : List ℤ → Text
values_text values = flat_map (λ value. 32 ∷ signed_decimal value) values

-- the line of a `read`: what the open instance counted so far
abbrev pub read_text : Span → Text
read_text s =
    if is_read s.line.call then
    decimal s.line.line ++ (codes " " ++ (decimal s.line.thread ++ (codes " " ++ (name_of s.line.call ++ (values_text s.values ++ codes "\n")))))
    else []

-- ---- the regions of a thread

-- a name after others, if it is not one of them
abbrev pub with_name : List Text → Text → List Text
with_name names name = if list_any (λ n. bytes_eq n name) names then names else names ++ name ∷ []

-- the names of a thread after one line more, which adds a name if it begins a region of the thread
abbrev pub with_begin : ℕ → List Text → Span → List Text
with_begin thread names s = if (s.line.thread == thread) && is_begin s.line.call then with_name names (name_of s.line.call) else names

-- the names of the regions of a thread, in the order of their first begins
abbrev pub names_of : ℕ → List Span → List Text
names_of thread spans = fold (with_begin thread) [] spans

-- an instance of a region of a thread ends here
abbrev pub ends : ℕ → Text → Span → Bool
ends thread name s = (s.line.thread == thread) && (is_end s.line.call && bytes_eq (name_of s.line.call) name)

-- the sum after one line more, which adds its values if it ends an instance of this region
abbrev pub with_end : ℕ → Text → List ℤ → Span → List ℤ
with_end thread name sum s = if ends thread name s then pairwise (int_wrapping_add w64) sum s.values else sum

-- the sum over the instances of a region, wrapped to signed 64 bits
abbrev pub total : ℕ → ℕ → Text → List Span → List ℤ
total events thread name spans = fold (with_end thread name) (replicate events (pos 0)) spans

-- the line of a region, from the number of its instances and their sum
abbrev pub total_text : ℕ → Text → ℕ → List ℤ → Text
total_text thread name instances values =
    decimal thread ++ (codes " " ++ (name ++ (codes " " ++ (decimal instances ++ (values_text values ++ codes "\n")))))

-- the line of a region: how many instances it has, and what they counted in all
abbrev pub region_text : ℕ → List Span → ℕ → Text → Text
region_text events spans thread name = total_text thread name (count_by (ends thread name) spans) (total events thread name spans)

-- the lines of a thread's regions, in the order of their first begins
abbrev pub thread_text : ℕ → List Span → ℕ → Text
thread_text events spans thread = flat_map (region_text events spans thread) (names_of thread spans)

-- the lines of the reads in the order of the script, and then the regions, thread by thread
unfoldable pub report_text : ℕ → List Span → Text
report_text events spans = flat_map read_text spans ++ flat_map (thread_text events spans) (range_with_len 0 THREADS)
