-- Occurrences that a program hands over as numbers while it runs: docs/FORMATS.md, "Occurrences as numbers".
use Rattle.std.specs.Prelude.{ℕ, zero, suc, ◌+◌, ◌/◌, ◌%◌, ◌≡◌, List, [], ◌∷◌, ◌++◌, length}
use Rattle.papi_base.specs.declared.occurrence.Occ.{Occ}
use Rattle.papi_base.specs.declared.limits.TheConstants.{LARGEST_AMOUNT}
use Rattle.papi_base.specs.Streams.{Coming, Dry}
use Rattle.overflow_dispatch.specs.declared.handler.Note.{Note}
use Rattle.postfix_rules.specs.Presets.{Book}
use Rattle.call_type.specs.declared.call.Call.TheVariants.{Run}
use Rattle.session_model.specs.Account.{Account, time_after}
use Rattle.session_model.specs.Step.{StepOutcome, step}
use Rattle.thread_core.specs.Stands.{CoreStands}
use Rattle.thread_session.specs.Follows.{expecting}
use Rattle.thread_session.specs.SessionView.{SessionView}
use Rattle.thread_session.specs.Stands.{Stands}
use Rattle.thread_session.specs.declared.happening.Happening.{Happening}

-- an occurrence of it, of an amount that a line can have
abbrev pub occurrence : Happening → ℕ → ℕ → Occ
occurrence what amount stamp = record {
  comp = what.comp;
  select = what.select;
  umask = what.umask;
  kernel = what.kernel;
  amount = amount;
  pc = what.pc;
  stamp = stamp;
}

-- so many of the largest amount, one after another
unfoldable pub largest_ones : Happening → ℕ → ℕ → List Occ
largest_ones what zero stamp = []
largest_ones what (suc n) stamp = occurrence what LARGEST_AMOUNT stamp ∷ largest_ones what n (stamp + 1)

-- one of what is left, if something is
abbrev pub last_one : Happening → ℕ → ℕ → List Occ
last_one what zero stamp = []
last_one what (suc n) stamp = occurrence what (suc n) stamp ∷ []

-- so much of it: of the largest amount as often as that goes into it, and then one of what is left
abbrev pub occurrences : Happening → ℕ → ℕ → List Occ
occurrences what amount stamp = largest_ones what (amount / LARGEST_AMOUNT) stamp ++ last_one what (amount % LARGEST_AMOUNT) (stamp + amount / LARGEST_AMOUNT)

-- what is to come of a stream that has these alone
abbrev pub these_alone : List Occ → Coming
these_alone os = record { rest = os; mark = Dry }

-- an account's run over these
abbrev pub run_over : Book → SessionView → List Occ → Account → StepOutcome
run_over book s os a = step book s.core.shape (expecting (these_alone os) a) (Run (length os))

-- So much of it has happened: for each account for which the session stood it stands for what a run over these occurrences makes of it, if its stream has
-- them alone, and these are the run's notes. The stream stays, and so do the sets.
pub record Happens (book : Book) (old new : SessionView) (what : Happening) (amount : ℕ) (told : List Note) : Type 0 where
  pub core : (a : Account) → CoreStands book old.core a → CoreStands book new.core (run_over book old (occurrences what amount (time_after old.core.last)) a).account
  pub notes : (a : Account) → CoreStands book old.core a → told ≡ (run_over book old (occurrences what amount (time_after old.core.last)) a).notes
  pub reader : new.reader ≡ old.reader
  pub shape : new.core.shape ≡ old.core.shape
