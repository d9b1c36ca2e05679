-- The script of calls that a region script stands for: this project's own format, docs/FORMATS.md.
use Rattle.std.specs.Prelude.{◌==◌, ℕ, Bool, List, [], ◌++◌, codes, decimal, if◌then◌else◌}
use Rattle.std.specs.List.{flat_map, list_any, range_with_len}
use Rattle.papi_base.specs.declared.limits.TheConstants.{THREADS}
use Rattle.table_rows.specs.Texts.{Text}
use Rattle.region_report.specs.declared.regions.RegionCall.{RegionCall}
use Rattle.region_report.specs.declared.regions.RegionCall.TheVariants as call
use Rattle.region_report.specs.declared.regions.RegionLine.{RegionLine}

-- a line of a thread
abbrev pub call_text : ℕ → Text → Text
call_text thread words = decimal thread ++ (codes " " ++ (words ++ codes "\n"))

-- the line that adds an event to the set: PAPI_add_named_event(3)
abbrev pub add_text : ℕ → Text → Text
add_text thread event = call_text thread (codes "add 0 " ++ event)

-- a set of the events, which counts from then on
abbrev pub opening : List Text → ℕ → Text
opening events thread = call_text thread (codes "create") ++ (flat_map (add_text thread) events ++ call_text thread (codes "start 0"))

-- a line that begins, reads or ends a region reads the set
abbrev pub words_of_call : RegionCall → Text
words_of_call (call.Begin name) = codes "read 0"
words_of_call (call.Read name) = codes "read 0"
words_of_call (call.End name) = codes "read 0"
words_of_call (call.Run count) = codes "run " ++ decimal count

-- the line of calls that a line of a region script becomes
abbrev pub line_text : RegionLine → Text
line_text line = call_text line.thread (words_of_call line.call)

-- some line is of this thread: only such threads count
abbrev pub has_lines : List RegionLine → ℕ → Bool
has_lines lines thread = list_any (λ l. l.thread == thread) lines

-- the lines by which a thread begins to count, if it has lines
abbrev pub thread_opening : List RegionLine → List Text → ℕ → Text
thread_opening lines events thread = if has_lines lines thread then opening events thread else []

-- a set for each thread that has lines, and then a call for each line
unfoldable pub script_text : List RegionLine → List Text → Text
script_text lines events = flat_map (thread_opening lines events) (range_with_len 0 THREADS) ++ flat_map line_text lines
