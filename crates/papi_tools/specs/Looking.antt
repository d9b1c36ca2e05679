-- What is seen of files and of sinks, and what looking at files, and the outcome of a call, show of the counts.
use Rattle.std.specs.Prelude.{ℕ, zero, suc, List, Option, ◌-◌, ◌^◌, [], Some, ◌≡◌, ◌≤◌, ◌+◌, Result, Ok, Err, IsSome}
use Rattle.std.specs.Option.{option_map}
use Rattle.papi_base.specs.Outside.{Held, Rose, renumbered}
use Rattle.papi_tools.specs.declared.refusal.Refusal.{Refusal}
use Rattle.papi_tools.specs.declared.refusal.Refusal.TheVariants.{BadWords, CannotRead, NoSuchFile}
use Rattle.papi_tools.specs.declared.refusal.Stop.{Stop}
use Rattle.papi_tools.specs.declared.refusal.Stop.TheVariants.{Refused}
use Rattle.tool_words.specs.declared.command.Command.{Command}
-- tools/make_tools: begin uses
use Rattle.tool_words.specs.declared.command.Command.TheVariants.{Regions, Avail, NativeAvail, EventChooser, Encode}
-- tools/make_tools: end uses
use Rattle.papi_tools.specs.declared.status.Outcome.{Outcome}
use Rattle.papi_tools.specs.declared.status.Outcome.TheVariants as outcome

-- the files and the openings that fail, if they are told, and the counts of misses, of faults and of sources that are out
pub record FilesSeen : Type 0 where
  pub held : Option Held
  pub misses : ℕ
  pub faults : ℕ
  pub lent : ℕ

-- by what a type of files says of a value
abbrev pub files_seen : {F : Type 0} → (F → Option Held) → (F → ℕ) → (F → ℕ) → (F → ℕ) → F → FilesSeen
files_seen held misses faults lent files = record { held = held files; misses = misses files; faults = faults files; lent = lent files }

-- the bytes that a sink has taken, if it tells, and its count of faults
pub record SinkSeen : Type 0 where
  pub taken : Option (List ℕ)
  pub faults : ℕ

-- by what a type of sink says of a value
abbrev pub sink_seen : {K : Type 0} → (K → Option (List ℕ)) → (K → ℕ) → K → SinkSeen
sink_seen taken faults sink = record { taken = taken sink; faults = faults sink }

-- files that hold nothing and tell it
abbrev pub no_files : FilesSeen
no_files = record { held = Some (record { tapes = []; refused = [] }); misses = 2 ^ 64 - 1; faults = 0; lent = 0 }

-- ---- what looking does to what the files hold

-- the numbers of the openings that fail, as they are after n openings
abbrev pub refused_after : ℕ → List ℕ → List ℕ
refused_after zero refused = refused
refused_after (suc n) refused = refused_after n (renumbered refused)

-- what is held after n openings: the same tapes by the same names, and of the openings that fail those that are still to come
abbrev pub held_after : ℕ → Held → Held
held_after n held = record { tapes = held.tapes; refused = refused_after n held.refused }

-- The files hold what they held before, if they tell it, and some openings are past.
pub record StaysHeld (before after : Option Held) : Type 0 where
  pub openings : ℕ
  pub held : after ≡ option_map (held_after openings) before

-- ---- what looking does to the counts

-- what the counts of the files show of a refusal of a file
abbrev pub HasFileCause : FilesSeen → FilesSeen → Refusal → Type 0
HasFileCause before after BadWords = ⊥
HasFileCause before after (NoSuchFile name) = Rose before.misses after.misses
HasFileCause before after (CannotRead name) = Rose before.faults after.faults
HasFileCause before after _ = Unit {0}

-- a step that ends the call by a refusal has its cause
abbrev pub StopsByFile : {A : Type 0} → Result A Stop → FilesSeen → FilesSeen → Type 0
StopsByFile (Err (Refused refusal)) before after = HasFileCause before after refusal
StopsByFile _ before after = Unit {0}

-- how many sources are out with the value of an answer
abbrev pub out_with : {A E : Type 0} → (A → ℕ) → Result A E → ℕ
out_with out (Ok value) = out value
out_with out (Err e) = 0

-- A step with this answer looked at files: a refusal has its cause, no count of misses or faults fell, and n sources more are out.
pub record Looked {A : Type 0} (answer : Result A Stop) (out : ℕ) (before after : FilesSeen) : Type 0 where
  pub cause : StopsByFile answer before after
  pub misses_stay : before.misses ≤ after.misses
  pub faults_stay : before.faults ≤ after.faults
  pub lent : after.lent ≡ before.lent + out

-- the same by what a type of files says of a value
abbrev pub LookedBy : {A F : Type 0} → (F → Option Held) → (F → ℕ) → (F → ℕ) → (F → ℕ) → Result A Stop → ℕ → F → F → Type 0
LookedBy held misses faults lent answer out files files' = Looked answer out (files_seen held misses faults lent files) (files_seen held misses faults lent files')

-- ---- what an outcome shows

-- tools/make_tools: begin rows
-- the tools that may say no: to the name of an event, to names, or to events that do not go together
abbrev pub SaysNo : Option Command → Type 0
SaysNo (Some (Regions words)) = Unit {0}
SaysNo (Some (Avail words)) = IsSome words.event
SaysNo (Some (NativeAvail words)) = IsSome words.event
SaysNo (Some (EventChooser words)) = Unit {0}
SaysNo (Some (Encode words)) = Unit {0}
SaysNo _ = ⊥

-- tools/make_tools: end rows

-- a tool that looks at files alone ends with its text, which says no only if it may
abbrev pub IsTextual : Type 0 → Outcome → Type 0
IsTextual MaySayNo outcome.Whole = Unit {0}
IsTextual MaySayNo outcome.No = MaySayNo
IsTextual MaySayNo _ = ⊥

-- what an outcome shows: a no that it may say no, a failed read that the count of the files' faults rose
abbrev pub Shows : Type 0 → ℕ → ℕ → Outcome → Type 0
Shows MaySayNo before after outcome.No = MaySayNo
Shows MaySayNo before after outcome.ReadFault = Rose before after
Shows MaySayNo before after _ = Unit {0}
