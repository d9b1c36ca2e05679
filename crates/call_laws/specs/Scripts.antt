-- The script of a region script, once the texts of its events are looked up: PAPI_event_name_to_code(3).
use Rattle.std.specs.Prelude.{ℕ, ◌≡◌, ◌<◌, List, All, length, map, Ok}
use Rattle.papi_base.specs.Streams.{Coming}
use Rattle.papi_base.specs.declared.limits.TheConstants.{THREADS}
use Rattle.papi_base.specs.declared.native.EventRef.{EventRef}
use Rattle.table_rows.specs.Texts.{Text}
use Rattle.script_lines.specs.Calls.{Written}
use Rattle.script_lines.specs.declared.script.ScriptLine.{ScriptLine}
use Rattle.event_sets.specs.AtRest.{new_set}
use Rattle.region_report.specs.CallLines as calls
use Rattle.region_report.specs.Scripts.{regions_of}
use Rattle.region_report.specs.Spans.{spans_from}
use Rattle.region_report.specs.declared.regions.RegionLine.{RegionLine}
use Rattle.session_model.specs.World.{Setting, opening_world, told}
use Rattle.call_type.specs.declared.call.Call.TheVariants as call
use Rattle.session_model.specs.CallTypes.{Asked}
use Rattle.call_type.specs.declared.call.Asked.TheVariants as asked
use Rattle.session_model.specs.declared.line.Line.{Line}
use Rattle.call_laws.specs.Readings.{TakesAll, readings_told, script_of}
use Rattle.call_laws.specs.Spans.{AllFit, region_spans}

-- a line of a script, if this is what its call asks for
abbrev pub line_by : (Written → Asked) → ScriptLine → Line
line_by ask l = record { thread = l.thread; asked = ask l.call }

-- each call asks for itself, and the texts name the events
pub record LooksUp (ask : Written → Asked) (texts : List Text) (events : List EventRef) : Type 0 where
  pub create : ask (asked.Call call.Create) ≡ asked.Call call.Create
  pub add : map (λ text. ask (asked.Call (call.Add 0 text))) texts ≡ map (λ e. asked.Call (call.Add 0 (Ok e))) events
  pub start : ask (asked.Call (call.Start 0)) ≡ asked.Call (call.Start 0)
  pub read : ask (asked.Call (call.Read 0)) ≡ asked.Call (call.Read 0)
  pub run : (n : ℕ) → ask (asked.Call (call.Run n)) ≡ asked.Call (call.Run n)

-- the script that is read of a region script is the one whose readings are said by positions
abbrev pub ScriptIsLookedUp : Type 0
ScriptIsLookedUp = (ask : Written → Asked) (lines : List RegionLine) (texts : List Text) (events : List EventRef) → LooksUp ask texts events
    → map (line_by ask) (calls.numbered 1 (calls.asked lines texts)) ≡ script_of lines events

-- The differences of what is read by the calls of a region script are what its regions count by positions, if a new set takes the
-- events and the readings are of signed 64 bits.
abbrev pub CountsByPosition : Type 0
CountsByPosition = (at : Setting) (ask : Written → Asked) (streams : List Coming) (bytes : List ℕ) (lines : List RegionLine) (texts : List Text)
    (events : List EventRef) → regions_of bytes ≡ Ok lines → All (λ l. l.thread < THREADS) lines
    → LooksUp ask texts events → 0 < length events → TakesAll at.book new_set events
    → let readings = readings_told (told at (opening_world streams) (map (line_by ask) (calls.numbered 1 (calls.asked lines texts)))) in
    AllFit readings → spans_from readings 0 lines ≡ region_spans at.book streams events lines
