-- What follows of a call's contract: how each status has come about, and when it is the tool's own.
use Rattle.std.specs.Prelude.{◌≡◌, ◌≢◌, ◌<◌, ◌≤◌, ◌⊎◌, ℕ, List, []}
use Rattle.papi_base.specs.Outside.{Rose}
use Rattle.tool_words.specs.Form.{form}
use Rattle.papi_tools.specs.Carried.{CarriesOutOver}
use Rattle.papi_tools.specs.Looking.{FilesSeen, SaysNo, SinkSeen}
use Rattle.papi_tools.specs.Openings.{Openings}
use Rattle.papi_tools.specs.Saying.{IsJudged, SaysAll}
use Rattle.papi_tools.specs.Status.{number_of}
use Rattle.papi_tools.specs.Verdict.{verdict}
use Rattle.papi_tools.specs.declared.status.Status.{Status}
use Rattle.papi_tools.specs.declared.status.Status.TheVariants as status

-- what is so of each call with these words that ended with this status, with these files and sinks before and after it
abbrev pub OfCalls : (Openings → List (List ℕ) → Status → FilesSeen → FilesSeen → SinkSeen → SinkSeen → SinkSeen → SinkSeen → Type 0) → Type 0
OfCalls Is = (openings : Openings) (words : List (List ℕ)) (s : Status) (files files' : FilesSeen) (out out' err err' : SinkSeen)
    → CarriesOutOver openings words s files files' out out' err err' → Is openings words s files files' out out' err err'

-- How its status has come about.
pub record HasCauses (openings : Openings) (words : List (List ℕ)) (s : Status) (files files' : FilesSeen) (out out' err err' : SinkSeen) : Type 0 where
  -- status 1 comes only from the tools that say no, status 3 only if an opening or a read failed, and a write that failed is status 5
  pub no : s ≡ status.No → SaysNo (form words)
  pub read_fault : s ≡ status.ReadFault → Rose files.faults files'.faults
  pub rises : (out.faults < out'.faults) ⊎ (err.faults < err'.faults) → s ≡ status.WriteFault
  -- if nothing failed, it is 0, 1, 2 or 4
  pub complete : ¬ (Rose files.faults files'.faults) → ¬ (Rose out.faults out'.faults) → ¬ (Rose err.faults err'.faults) → IsJudged s
  -- if no sink failed, all of it is said, or memory ran out
  pub whole : ¬ (Rose out.faults out'.faults) → ¬ (Rose err.faults err'.faults) → SaysAll s (verdict words openings).said out.taken out'.taken err.taken err'.taken

-- each call's status has
abbrev pub CausesAreShown : Type 0
CausesAreShown = OfCalls HasCauses

-- ---- the tool's own status

-- its number is 0 or 1
abbrev pub IsOwn : Status → Type 0
IsOwn s = number_of s ≤ 1

-- The status is the tool's own if nothing is to be said on standard error, memory sufficed and no write failed; and only if nothing is.
pub record IsOwnIfQuiet (openings : Openings) (words : List (List ℕ)) (s : Status) (files files' : FilesSeen) (out out' err err' : SinkSeen) : Type 0 where
  pub own : (verdict words openings).said.err ≡ [] → s ≢ status.Memory → s ≢ status.WriteFault → IsOwn s
  pub quiet : IsOwn s → (verdict words openings).said.err ≡ []

-- each call's status is
abbrev pub StatusIsOwn : Type 0
StatusIsOwn = OfCalls IsOwnIfQuiet
