-- The contract of a tool: what a call with these words writes, how it ends, and what it tells the handlers.
use Rattle.std.specs.Prelude.{◌≡◌, ◌≢◌, ◌∷◌, ℕ, List, Option, String, Err, map, string_bytes}
use Rattle.std.specs.declared.alloc.Global.{Global}
use Rattle.papi_base.specs.Outside.{Held, Rose}
use Rattle.overflow_dispatch.specs.declared.handler.Note.{Note}
use Rattle.overflow_dispatch.specs.Notes.{EachGrown}
use Rattle.tool_words.specs.Form.{form}
use Rattle.papi_tools.specs.Looking.{FilesSeen, SaysNo, Shows, SinkSeen, StaysHeld, files_seen, sink_seen}
use Rattle.papi_tools.specs.Openings.{ForSome, Openings}
use Rattle.papi_tools.specs.Saying.{HasSinkCause, Says, TellsNotes}
use Rattle.papi_tools.specs.Verdict.{verdict, verdict_for}
use Rattle.papi_tools.specs.declared.refusal.Refusal.TheVariants.{NoSuchFile}
use Rattle.papi_tools.specs.declared.status.Status.{Status}
use Rattle.papi_tools.specs.declared.status.Status.TheVariants as status

-- A call with these words, whose openings find this, ended with this status, with these files and sinks before and after it.
pub record CarriesOutOver (openings : Openings) (words : List (List ℕ)) (s : Status) (files files' : FilesSeen) (out out' err err' : SinkSeen) : Type 0 where
  -- what the words come to is said
  pub says : Says s (verdict words openings).said out.taken out'.taken err.taken err'.taken
  -- it has its cause in the words, in the counts of the files or in that of a sink
  pub shows : s ≢ status.Memory → Shows (SaysNo (form words)) files.faults files'.faults (verdict words openings).said.outcome
  pub missing : s ≢ status.Memory → (name : List ℕ) → verdict_for openings (form words) ≡ Err (NoSuchFile name) → Rose files.misses files'.misses
  pub sinks : HasSinkCause s out.faults out'.faults err.faults err'.faults
  -- every source that was opened is closed
  pub returned : files'.lent ≡ files.lent
  -- each file holds what it held
  pub held : StaysHeld files.held files'.held

-- Such a call told the handlers the notes of the verdict, and each list of notes has grown at its end.
pub record TellsOver (openings : Openings) (words : List (List ℕ)) (s : Status) (before after : List (List Note)) : Type 0 where
  pub tells : TellsNotes s (verdict words openings).notes before after
  pub grown : EachGrown before after

-- A call with these words ended with this status: so for some openings that can be those of the files, which are those that the files tell, if they tell.
abbrev pub CarriesOut : List (List ℕ) → Status → FilesSeen → FilesSeen → SinkSeen → SinkSeen → SinkSeen → SinkSeen → Type 0
CarriesOut words s files files' out out' err err' = ForSome files.held (λ openings. CarriesOutOver openings words s files files' out out' err err')

-- The same of a call that tells handlers, and by the same openings these are the notes that it told them.
abbrev pub CarriesOutAndTells : List (List ℕ) → Status → FilesSeen → FilesSeen → SinkSeen → SinkSeen → SinkSeen → SinkSeen → List (List Note) → List (List Note) → Type 0
CarriesOutAndTells words s files files' out out' err err' before after =
    ForSome files.held (λ openings. CarriesOutOver openings words s files files' out out' err err' × TellsOver openings words s before after)

-- The same two of the tool of this name over the words after it, by what types of files and of sinks say of values.
abbrev pub CarriesOutBy : {F K : Type 0} → (F → Option Held) → (F → ℕ) → (F → ℕ) → (F → ℕ) → (K → Option (List ℕ)) → (K → ℕ) → Status → List ℕ → List (String Global) → F → F → K → K → K → K → Type 0
CarriesOutBy held misses faults lent taken failed s tool words files files' out out' err err' =
    CarriesOut (tool ∷ map string_bytes words) s (files_seen held misses faults lent files) (files_seen held misses faults lent files')
    (sink_seen taken failed out) (sink_seen taken failed out') (sink_seen taken failed err) (sink_seen taken failed err')

abbrev pub CarriesOutAndTellsBy : {F K : Type 0} → (F → Option Held) → (F → ℕ) → (F → ℕ) → (F → ℕ) → (K → Option (List ℕ)) → (K → ℕ) → Status → List ℕ → List (String Global) → F → F → K → K → K → K →
    List (List Note) → List (List Note) → Type 0
CarriesOutAndTellsBy held misses faults lent taken failed s tool words files files' out out' err err' before after =
    CarriesOutAndTells (tool ∷ map string_bytes words) s (files_seen held misses faults lent files) (files_seen held misses faults lent files')
    (sink_seen taken failed out) (sink_seen taken failed out') (sink_seen taken failed err) (sink_seen taken failed err') before after
