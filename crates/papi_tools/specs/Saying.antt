-- What a call writes, by its status, and what the counts of faults show of it.
use Rattle.std.specs.Prelude.{◌≡◌, ◌-◌, ◌⊎◌, ℕ, List, length, take, Option}
use Rattle.papi_base.specs.Outside.{appended, next_count}
use Rattle.overflow_dispatch.specs.declared.handler.Note.{Note}
use Rattle.overflow_dispatch.specs.Notes.{EachAdded, EachBegun}
use Rattle.papi_tools.specs.declared.status.Status.{Status}
use Rattle.papi_tools.specs.declared.status.Status.TheVariants as status
use Rattle.papi_tools.specs.Status.{status_of}
use Rattle.papi_tools.specs.declared.said.Said.{Said}

-- The first k bytes of the output and then of the lines have been written.
pub record Wrote (said : Said) (k : ℕ) (out out' err err' : Option (List ℕ)) : Type 0 where
  pub out_is : out' ≡ appended out (take k said.out)
  pub err_is : err' ≡ appended err (take (k - length said.out) said.err)

-- The output and the lines have been written whole.
pub record WroteAll (said : Said) (out out' err err' : Option (List ℕ)) : Type 0 where
  pub out_is : out' ≡ appended out said.out
  pub err_is : err' ≡ appended err said.err

-- A call with this status has written what it says: whole, or up to where it ended.
abbrev pub Says : Status → Said → Option (List ℕ) → Option (List ℕ) → Option (List ℕ) → Option (List ℕ) → Type 0
Says status.Memory said out out' err err' = (k : ℕ) × Wrote said k out out' err err'
Says status.WriteFault said out out' err err' = (k : ℕ) × Wrote said k out out' err err'
Says s said out out' err err' = (s ≡ status_of said.outcome) × WroteAll said out out' err err'

-- All of it has been said with its status, or memory ran out.
abbrev pub SaysAll : Status → Said → Option (List ℕ) → Option (List ℕ) → Option (List ℕ) → Option (List ℕ) → Type 0
SaysAll s said out out' err err' = ((s ≡ status_of said.outcome) × WroteAll said out out' err err') ⊎ (s ≡ status.Memory)

-- A call with this status has told each handler the notes of its thread, if memory ran out, a prefix of them.
abbrev pub TellsNotes : Status → List (List Note) → List (List Note) → List (List Note) → Type 0
TellsNotes status.Memory given before after = EachBegun before given after
TellsNotes s given before after = EachAdded before given after

-- Status 5 only if one of the sinks failed, once: after a failed write nothing more is handed to it. The counts stay if the status is another one.
abbrev pub HasSinkCause : Status → ℕ → ℕ → ℕ → ℕ → Type 0
HasSinkCause status.WriteFault out out' err err' = ((out' ≡ next_count out) × (err' ≡ err)) ⊎ ((out' ≡ out) × (err' ≡ next_count err))
HasSinkCause s out out' err err' = (out' ≡ out) × (err' ≡ err)

-- a status that stands for a judgment, or for out of memory
abbrev pub IsJudged : Status → Type 0
IsJudged status.ReadFault = ⊥
IsJudged status.WriteFault = ⊥
IsJudged _ = Unit {0}
