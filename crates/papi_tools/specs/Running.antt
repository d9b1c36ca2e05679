-- What the run of a script gives: the replies of one thread that goes through it in order, and the notes of each thread.
use Rattle.std.specs.Prelude.{◌≡◌, ℕ, List, length, map, IfOk, OnOk, Result, Ok}
use Rattle.overflow_dispatch.specs.declared.handler.Note.{Note}
use Rattle.overflow_dispatch.specs.Notes.{EachAdded, EachBegun}
use Rattle.papi_base.specs.Streams.{Coming}
use Rattle.session_model.specs.World.{LineTold}
use Rattle.stream_reader.specs.Reader.{ReaderView}
use Rattle.component_table.specs.Catalogs.{CatalogView}
use Rattle.script_lines.specs.declared.script.ScriptLine.{ScriptLine}
use Rattle.thread_registry.specs.Runs.{CanEachCome, notes_by_thread, world_told}
use Rattle.thread_registry.specs.declared.runner.result.ReplyLine.{ReplyLine}
use Rattle.script_runner.specs.Resolving.{lines_of, reply_lines_of, setting_of}
use Rattle.papi_tools.specs.Openings.{Openings, and_then, opened}
use Rattle.papi_tools.specs.Streams.{TellStreams, streams_under}
use Rattle.papi_tools.specs.declared.refusal.Refusal.{Refusal}
use Rattle.papi_tools.specs.declared.script_run.RanScript.{RanScript}

-- what a run stands on: the catalog, a script of some kind, and the streams of all threads
pub record GivenOf (A : Type 0) : Type 0 where
  pub catalog : CatalogView
  pub script : A
  pub streams : List Coming

-- what the run of a script of calls stands on
abbrev pub GivenRun : Type 0
GivenRun = GivenOf (List ScriptLine)

-- this catalog and script are given, and the readers tell the streams that are
pub record IsGivenRun (catalog : CatalogView) (script : List ScriptLine) (readers : List ReaderView) (given : GivenRun) : Type 0 where
  pub catalog_is : catalog ≡ given.catalog
  pub script_is : script ≡ given.script
  pub told : TellStreams readers given.streams

-- this catalog and this script are given, and the streams that are can come of the readers, whether or not these tell them
pub record CanBeGivenRun {A : Type 0} (catalog : CatalogView) (script : A) (readers : List ReaderView) (given : GivenOf A) : Type 0 where
  pub catalog_is : catalog ≡ given.catalog
  pub script_is : script ≡ given.script
  pub can_come : CanEachCome readers given.streams

-- what is given with this catalog and this script: the streams in their order
abbrev pub given_with : {A : Type 0} → CatalogView → List (List ℕ) → A → Openings → Result (GivenOf A) Refusal
given_with {A} catalog names script openings =
    and_then (streams_under openings names) (λ streams. Ok (let given : GivenOf A = record { catalog = catalog; script = script; streams = streams } in given))

-- what is given with this catalog: the script, then the streams
abbrev pub given_of : {A : Type 0} → CatalogView → (Openings → Result A Refusal) → List (List ℕ) → Openings → Result (GivenOf A) Refusal
given_of catalog gives names openings = and_then (gives openings) (λ script. given_with catalog names script (opened openings))

-- what one thread tells that goes through the whole script in order
abbrev pub told_in : GivenRun → List LineTold
told_in given = world_told (setting_of given.catalog) (lines_of given.catalog given.script) given.streams

-- the reply to each line of the script, in its order
unfoldable pub ran_replies : GivenRun → List ReplyLine
ran_replies given = reply_lines_of given.script (told_in given)

-- the notes of each thread, in order
unfoldable pub ran_notes : GivenRun → List (List Note)
ran_notes given = notes_by_thread (told_in given)

-- how many notes each of several lists has
abbrev pub note_counts : List (List Note) → List ℕ
note_counts lists = map (λ notes. length notes) lists

-- A run over this has these replies and tells each handler the notes of its thread; if memory ran out, a prefix of them.
pub record IsRun {E : Type 0} (result : Result RanScript E) (given : GivenRun) (before after : List (List Note)) : Type 0 where
  pub replies : IfOk result (λ ran. ran.lines ≡ ran_replies given)
  pub notes : OnOk result (EachAdded before (ran_notes given) after)
  pub begun : EachBegun before (ran_notes given) after
