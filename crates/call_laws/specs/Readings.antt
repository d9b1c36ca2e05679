-- The readings that the script of a region script gives: PAPI_start(3), PAPI_read(3). The scripts are this project's own.
use Rattle.std.specs.Prelude.{ℕ, ◌≡◌, ◌<◌, ℤ, if◌then◌else◌, List, [], ◌∷◌, ◌++◌, All, length, map, None, Ok, ⊤}
use Rattle.std.specs.List.{flat_map, range_with_len}
use Rattle.papi_base.specs.Streams.{Coming}
use Rattle.papi_base.specs.declared.limits.TheConstants.{THREADS}
use Rattle.papi_base.specs.declared.native.EventRef.{EventRef}
use Rattle.postfix_rules.specs.Presets.{Book}
use Rattle.event_sets.specs.Adding.{add_refusal}
use Rattle.event_sets.specs.AtRest.{AtRest, new_set, with_event}
use Rattle.region_report.specs.Calls.{has_lines}
use Rattle.region_report.specs.Lines.{is_reading}
use Rattle.region_report.specs.declared.regions.RegionCall.{RegionCall}
use Rattle.region_report.specs.declared.regions.RegionCall.TheVariants as region
use Rattle.region_report.specs.declared.regions.RegionLine.{RegionLine}
use Rattle.session_model.specs.World.{LineTold, Setting, opening_world, told}
use Rattle.session_model.specs.CallTypes.{Call}
use Rattle.call_type.specs.declared.call.Call.TheVariants as call
use Rattle.call_type.specs.declared.call.Asked.TheVariants as asked
use Rattle.session_model.specs.declared.line.Line.{Line}
use Rattle.session_model.specs.declared.reply.Body.{Body}
use Rattle.session_model.specs.declared.reply.Body.TheVariants as body
use Rattle.session_model.specs.declared.reply.Reply.{Reply}
use Rattle.call_laws.specs.Positions.{position, stream_of, value_at}

-- ---- the script of calls

-- a line of a script, by which a thread makes a call on its session
abbrev pub line_of : ℕ → Call → Line
line_of thread c = record { thread = thread; asked = asked.Call c }

-- a set of the events, which counts from then on
abbrev pub opening_calls : List EventRef → List Call
opening_calls events = call.Create ∷ (map (λ e. call.Add 0 (Ok e)) events ++ call.Start 0 ∷ [])

-- for each thread that has lines
abbrev pub opening_lines : List RegionLine → List EventRef → ℕ → List Line
opening_lines lines events thread = if has_lines lines thread then map (line_of thread) (opening_calls events) else []

-- a line that begins, reads or ends a region reads the set
abbrev pub call_on_set : RegionCall → Call
call_on_set (region.Begin name) = call.Read 0
call_on_set (region.Read name) = call.Read 0
call_on_set (region.End name) = call.Read 0
call_on_set (region.Run count) = call.Run count

-- the line of calls that a line of a region script becomes
abbrev pub call_line : RegionLine → Line
call_line line = line_of line.thread (call_on_set line.call)

-- the lines by which all threads that have lines begin to count, from thread 0 on
abbrev pub opening_script : List RegionLine → List EventRef → List Line
opening_script lines events = flat_map (opening_lines lines events) (range_with_len 0 THREADS)

-- the script that `script_text` of region_report is the text of, with the events that its texts name
abbrev pub script_of : List RegionLine → List EventRef → List Line
script_of lines events = opening_script lines events ++ map call_line lines

-- ---- what it gives

-- the values that a reply shows, as a list of one or none
abbrev pub values_in : Body → List (List ℤ)
values_in (body.Values values) = values ∷ []
values_in other = []

-- those of all replies, in their order
abbrev pub readings_in : List Reply → List (List ℤ)
readings_in replies = flat_map (λ r. values_in r.body) replies

-- the readings that a whole script gave, in its order
abbrev pub readings_told : List LineTold → List (List ℤ)
readings_told xs = readings_in (map (λ x. x.reply) xs)

-- ---- the same by positions

-- the values of the events from the first occurrence up to the position of a thread after some lines
abbrev pub reading_after : Book → List Coming → List EventRef → ℕ → List RegionLine → List ℤ
reading_after book streams events thread before =
    map (value_at book (stream_of streams thread) (position (stream_of streams thread) thread before)) events

-- the reading of one line by positions, as a list of one, or of none if it is a `run`
abbrev pub reading_at : Book → List Coming → List EventRef → List RegionLine → RegionLine → List (List ℤ)
reading_at book streams events before line = if is_reading line then reading_after book streams events line.thread before ∷ [] else []

-- one for each line that reads the counters, if other lines stand before these
abbrev pub readings_after : Book → List Coming → List EventRef → List RegionLine → List RegionLine → List (List ℤ)
readings_after book streams events before [] = []
readings_after book streams events before (line ∷ lines) =
    reading_at book streams events before line ++ readings_after book streams events (before ++ line ∷ []) lines

-- ---- the law

-- a set takes the events one after another
abbrev pub TakesAll : Book → AtRest → List EventRef → Type 0
TakesAll book s [] = ⊤
TakesAll book s (e ∷ events) = (add_refusal book e s ≡ None) × TakesAll book (with_event book e s) events

-- If a new set takes the events, each reading of the script shows the values of the events from the first occurrence of its thread up
-- to the position of its line.
abbrev pub ReadsByPosition : Type 0
ReadsByPosition = (at : Setting) (streams : List Coming) (lines : List RegionLine) (events : List EventRef)
    → All (λ l. l.thread < THREADS) lines → 0 < length events → TakesAll at.book new_set events
    → readings_told (told at (opening_world streams) (script_of lines events)) ≡ readings_after at.book streams events [] lines
