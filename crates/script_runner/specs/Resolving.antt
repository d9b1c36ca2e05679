-- The lines of a script, with their events looked up: PAPI_event_name_to_code(3), PAPI_event_code_to_name(3).
-- The script is this project's own: docs/FORMATS.md.
use Rattle.std.specs.Prelude.{◌≡◌, ◌++◌, List, [], ◌∷◌, map, Result, Ok, Err, ⊤}
use Rattle.std.specs.List.{flat_map}
use Rattle.component_table.specs.Catalogs.{CatalogView, looked_up, shape_of}
use Rattle.component_table.specs.Codes.{row_codes}
use Rattle.call_type.specs.Calls.{asked_with, name_of}
use Rattle.papi_base.specs.declared.code.Code.{Code}
use Rattle.papi_base.specs.declared.native.EventRef.{EventRef}
use Rattle.papi_base.specs.declared.native.EventRef.TheVariants as event
use Rattle.papi_base.specs.declared.native.Native.{Native}
use Rattle.thread_registry.specs.declared.runner.result.ReplyLine.{ReplyLine}
use Rattle.postfix_rules.specs.Sameness.{joined_by}
use Rattle.script_lines.specs.Calls.{Written}
use Rattle.script_lines.specs.declared.script.ScriptLine.{ScriptLine}
use Rattle.session_model.specs.Conditions.{IsGood}
use Rattle.session_model.specs.World.{LineTold, Setting, mentions_of}
use Rattle.session_model.specs.CallTypes.{Asked}
use Rattle.call_type.specs.declared.call.Asked.TheVariants as asked
use Rattle.session_model.specs.declared.line.Line.{Line}

-- what all threads share: the presets and user events, their codes, and the counters
abbrev pub setting_of : CatalogView → Setting
setting_of catalog = record { book = catalog.book; codes = row_codes catalog; shape = shape_of catalog.tables }

-- what a line asks for
abbrev pub asked_of : CatalogView → Written → Asked
asked_of catalog written = asked_with (looked_up catalog) (looked_up catalog) written

-- a line of a script as the model has it, with the events that its names stand for
abbrev pub line_of : CatalogView → ScriptLine → Line
line_of catalog l = record { thread = l.thread; asked = asked_of catalog l.call }

-- the lines of a script, looked up
unfoldable pub lines_of : CatalogView → List ScriptLine → List Line
lines_of catalog script = map (line_of catalog) script

-- a call of a session is one that it may be given
abbrev pub IsGoodAsk : CatalogView → Asked → Type 0
IsGoodAsk catalog (asked.Call c) = IsGood catalog.book (shape_of catalog.tables) c
IsGoodAsk catalog (asked.CodeOf e) = ⊤
IsGoodAsk catalog (asked.NameOf c) = ⊤
IsGoodAsk catalog asked.Threads = ⊤

-- the native event that a text names, if it names one: no preset and no user event is mentioned
abbrev pub mentions_by : Result EventRef Code → List Native
mentions_by (Ok (event.Native n)) = n ∷ []
mentions_by (Ok (event.Preset row)) = []
mentions_by (Err code) = []

-- the native events that lines mention, in the order of their first mentions
abbrev pub mentioned_in : List Line → List Native
mentioned_in lines = joined_by [] (flat_map (λ l. mentions_of l.asked) lines)

-- some of the first of them, or all
abbrev pub AreFirstOf : List Native → List Native → Type 0
AreFirstOf natives begun = (others : List Native) × (natives ≡ begun ++ others)

-- the replies beside the lines of the script
unfoldable pub reply_lines_of : List ScriptLine → List LineTold → List ReplyLine
reply_lines_of [] told = []
reply_lines_of (l ∷ ls) [] = []
reply_lines_of (l ∷ ls) (x ∷ xs) = record { line = l.line; thread = l.thread; word = name_of l.call; reply = x.reply } ∷ reply_lines_of ls xs
