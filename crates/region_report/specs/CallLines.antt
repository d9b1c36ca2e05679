-- The calls of the script that a region script stands for, after PAPI_hl_region_begin(3); the format is this project's own,
-- docs/FORMATS.md.
use Rattle.std.specs.Prelude.{◌&&◌, ◌≡◌, ◌≤◌, ◌+◌, ℕ, Bool, true, not, List, [], ◌∷◌, ◌++◌, Ok, if◌then◌else◌, length, map, nat_le}
use Rattle.std.specs.List.{flat_map, list_all, range_with_len}
use Rattle.papi_base.specs.Numerals.{is_empty}
use Rattle.papi_base.specs.declared.limits.TheConstants.{THREADS}
use Rattle.table_rows.specs.Texts.{Text}
use Rattle.script_lines.specs.Scripts.{script_of}
use Rattle.call_type.specs.declared.call.Asked.TheVariants as line
use Rattle.call_type.specs.declared.call.Call.{Call}
use Rattle.call_type.specs.declared.call.Call.TheVariants as script
use Rattle.script_lines.specs.declared.script.ScriptLine.{ScriptLine}
use Rattle.region_report.specs.Calls.{has_lines, script_text}
use Rattle.region_report.specs.declared.regions.RegionCall.{RegionCall}
use Rattle.region_report.specs.declared.regions.RegionCall.TheVariants as call
use Rattle.region_report.specs.declared.regions.RegionLine.{RegionLine}
use Rattle.papi_base.specs.declared.limits.TheConstants.{MOST_SET_EVENTS}

-- ---- the events

-- from `!` to `~`
abbrev pub is_event_character : ℕ → Bool
is_event_character b = nat_le 33 b && nat_le b 126

-- one or more of these characters, so that it is one word of a script
abbrev pub is_event : Text → Bool
is_event event = not (is_empty event) && list_all is_event_character event

-- not more than a set can have
pub record AreEvents (events : List Text) : Type 0 where
  pub few : length events ≤ MOST_SET_EVENTS
  pub each : list_all is_event events ≡ true

-- ---- the calls

-- a call of a thread
pub record ThreadCall : Type 0 where
  pub thread : ℕ
  pub call : Call Text

-- a thread asks for a call
abbrev pub asks : ℕ → Call Text → ThreadCall
asks thread call = record { thread = thread; call = call }

-- a set of the events, which counts from then on
abbrev pub opening_calls : List Text → List (Call Text)
opening_calls events = script.Create ∷ (map (λ event. script.Add 0 event) events ++ script.Start 0 ∷ [])

-- a line that begins, reads or ends a region reads the set
abbrev pub call_for : RegionCall → Call Text
call_for (call.Begin name) = script.Read 0
call_for (call.Read name) = script.Read 0
call_for (call.End name) = script.Read 0
call_for (call.Run count) = script.Run count

-- what a line of a region script asks for, by the same thread
abbrev pub asked_at : RegionLine → ThreadCall
asked_at line = asks line.thread (call_for line.call)

-- what a thread that has lines asks for before the first of them, and nothing if it has none
abbrev pub asked_first : List RegionLine → List Text → ℕ → List ThreadCall
asked_first lines events thread = if has_lines lines thread then map (asks thread) (opening_calls events) else []

-- a set for each thread that has lines, and then a call for each line
unfoldable pub asked : List RegionLine → List Text → List ThreadCall
asked lines events = flat_map (asked_first lines events) (range_with_len 0 THREADS) ++ map asked_at lines

-- each on a line of its own, of which the first has this number
abbrev pub numbered : ℕ → List ThreadCall → List ScriptLine
numbered number [] = []
numbered number (a ∷ more) = record { line = number; thread = a.thread; call = line.Call a.call } ∷ numbered (number + 1) more

-- The script of calls that a region script stands for has no fault, and these are its calls.
abbrev pub ReadsAsCalls : List RegionLine → List Text → Type 0
ReadsAsCalls lines events = AreEvents events → script_of (script_text lines events) ≡ Ok (numbered 1 (asked lines events))
