-- What `papi_run` replies and tells, line by line: by the calls of each thread alone, so that the laws of call_laws speak of it.
use Rattle.std.specs.Prelude.{ℕ, ◌≡◌, ◌<◌, List, ◌∷◌, Some, Result, Ok, slice_get, take}
use Rattle.papi_base.specs.Streams.{Coming}
use Rattle.papi_base.specs.declared.limits.TheConstants.{THREADS}
use Rattle.call_laws.specs.Conflicts.{IsOverUnit}
use Rattle.call_laws.specs.History.{Thread, answered, reply_after}
use Rattle.call_laws.specs.OfThreads.{thread_in}
use Rattle.call_laws.specs.Passings.{passings}
use Rattle.call_laws.specs.Readings.{line_of as line_by}
use Rattle.component_table.specs.Catalogs.{CatalogView}
use Rattle.call_type.specs.Calls.{name_of}
use Rattle.script_lines.specs.Kept.{IsScript}
use Rattle.script_lines.specs.Scripts.{script_of}
use Rattle.script_lines.specs.declared.script.ScriptLine.{ScriptLine}
use Rattle.session_model.specs.World.{calls_at}
use Rattle.session_model.specs.CallTypes.{Call}
use Rattle.call_type.specs.declared.call.Asked.TheVariants as asked
use Rattle.script_runner.specs.Resolving.{asked_of, lines_of, setting_of}
use Rattle.thread_registry.specs.declared.runner.result.ReplyLine.{ReplyLine}
use Rattle.tool_words.specs.declared.run.RunWords.{RunWords}
use Rattle.papi_tools.specs.Contents.{after_tables, catalog_under, script_under}
use Rattle.papi_tools.specs.Openings.{Openings, Verdict, and_then}
use Rattle.papi_tools.specs.Run.{ran_verdict, run_verdict}
use Rattle.papi_tools.specs.Running.{GivenRun, given_of, ran_notes, ran_replies}
use Rattle.papi_tools.specs.declared.refusal.Refusal.{Refusal}

-- a thread of the run: over the catalog's presets and counters, with its stream
abbrev pub thread_of : GivenRun → ℕ → Thread
thread_of given t = thread_in (setting_of given.catalog) given.streams t

-- a thread's calls in the first lines
abbrev pub calls_in_first : GivenRun → ℕ → ℕ → List Call
calls_in_first given count t = calls_at t (take count (lines_of given.catalog given.script))

-- what is replied to a line, whose thread makes this call after those of it in the lines before
abbrev pub own_reply : GivenRun → ℕ → ScriptLine → Call → ReplyLine
own_reply given i l c = record {
  line = l.line;
  thread = l.thread;
  word = name_of l.call;
  reply = reply_after (thread_of given l.thread) (calls_in_first given i l.thread) c;
}

-- the reply to each line of any lines that asks for a call of a thread is the one after its own thread's calls before it
abbrev pub RepliesAreOwn : Type 0
RepliesAreOwn = (given : GivenRun) (i : ℕ) (l : ScriptLine) (c : Call)
    → l.thread < THREADS → slice_get given.script i ≡ Some l → asked_of given.catalog l.call ≡ asked.Call c
    → slice_get (ran_replies given) i ≡ Some (own_reply given i l c)

-- a script that is read keeps to its limits: each of its lines is of a thread that there is
abbrev pub ScriptsAreKept : Type 0
ScriptsAreKept = (bytes : List ℕ) (script : List ScriptLine) → script_of bytes ≡ Ok script → IsScript script

-- the notes of each thread are the thresholds that its own calls pass
abbrev pub NotesAreOwn : Type 0
NotesAreOwn = (given : GivenRun) (t : ℕ) → t < THREADS
    → slice_get (ran_notes given) t
    ≡ Some (passings (thread_of given t) (answered (thread_of given t) (calls_at t (lines_of given.catalog given.script))))

-- ---- what `papi_run` comes to

-- what `papi_run` runs: the catalog, the script and the streams that these openings give
abbrev pub given_by : Openings → RunWords → Result GivenRun Refusal
given_by openings words =
    and_then (catalog_under openings words.unit words.presets) (λ catalog.
    given_of catalog (λ o. script_under o words.script) words.streams (after_tables words.presets openings))

-- The verdict is that of the run of what is given. The reply to each line that asks for a call is the one after its own thread's calls
-- before it, and the notes of each thread are the thresholds that its own calls pass.
pub record IsOfOwnCalls (openings : Openings) (words : RunWords) (verdict : Verdict) (given : GivenRun) : Type 0 where
  pub is_given : given_by openings words ≡ Ok given
  pub is_verdict : verdict ≡ ran_verdict words.notes given
  pub replies : (i : ℕ) (l : ScriptLine) (c : Call) → slice_get given.script i ≡ Some l → asked_of given.catalog l.call ≡ asked.Call c
      → slice_get (ran_replies given) i ≡ Some (own_reply given i l c)
  pub notes : (t : ℕ) → t < THREADS → slice_get (ran_notes given) t
      ≡ Some (passings (thread_of given t) (answered (thread_of given t) (calls_at t (lines_of given.catalog given.script))))

-- so is each verdict of `papi_run` that is no refusal
abbrev pub RunsAreOwn : Type 0
RunsAreOwn = (openings : Openings) (words : RunWords) (verdict : Verdict) → run_verdict openings words ≡ Ok verdict
    → (given : GivenRun) × IsOfOwnCalls openings words verdict given

-- ---- the events of the calls

-- the calls of each thread in a script over this catalog, those that come before a call and the call itself, are over the unit, as
-- the laws of conflicts ask
abbrev pub AreOverUnit : CatalogView → List ScriptLine → Type 0
AreOverUnit catalog script = (streams : List Coming) (i t : ℕ) (c : Call)
    → slice_get (lines_of catalog script) i ≡ Some (line_by t c)
    → IsOverUnit (thread_in (setting_of catalog) streams t) (c ∷ calls_at t (take i (lines_of catalog script)))
