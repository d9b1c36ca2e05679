-- Occurrences handed over from C: docs/FORMATS.md, "Occurrences as numbers".
use Rattle.std.specs.Prelude.{ℕ, ℤ, ◌≡◌, ◌≢◌, ◌<◌, ◌≤◌, ◌+◌, ◌==◌, ◌-◌, ◌⊎◌, false, not, List, [], ◌∷◌, drop, length, map, min, negsuc, pos, take, Option}
use Rattle.overflow_dispatch.specs.declared.handler.Note.{Note}
use Rattle.papi_c.specs.Runs.{passing_of}
use Rattle.papi_c.specs.Through.{Through}
use Rattle.papi_c.specs.declared.happening.Occurrences.{Occurrences}
use Rattle.papi_c.specs.declared.running.Passing.{Passing}
use Rattle.papi_calls.specs.Libraries.{LibraryView}
use Rattle.thread_core.specs.Stands.{has_stamp}
use Rattle.thread_session.specs.Happening as session
use Rattle.thread_session.specs.declared.filling.TheConstants.{MOST_PASSED}
use Rattle.thread_session.specs.declared.happening.Halt.{Halt}
use Rattle.thread_session.specs.declared.happening.Halt.TheVariants as halt
use Rattle.thread_session.specs.declared.happening.Happened.{Happened}
use Rattle.thread_session.specs.declared.happening.Happening.{Happening}

-- the same for the session
abbrev pub happening_of : Occurrences → Happening
happening_of what = record {
  comp = what.component;
  select = what.select;
  umask = what.umask;
  kernel = not (what.kernel == 0);
  pc = what.address;
  amount = what.amount;
}

-- PAPI_OK if all have happened, PAPI_EBUF if no more notes might have had room, else PAPI_EINVAL
abbrev pub halt_number : Halt → ℤ
halt_number halt.Done = pos 0
halt_number halt.Full = negsuc 19
halt_number halt.Spent = negsuc 0
halt_number halt.Streaming = negsuc 0

-- So many of them have happened, as a run over these occurrences has it. Its notes stand at the first places, each of them, and what is past them stays. It
-- stops early only before an occurrence that might have needed more room than was left, or that no thread takes, and does nothing only before the stream's end.
pub record HasHappened (old new : LibraryView) (what : Happening) (happened : Happened) (before after : List Passing) : Type 0 where
  pub notes : List Note
  pub happens : session.Happens old.catalog.book old.session new.session what happened.amount notes
  pub within : happened.amount ≤ what.amount
  pub counted : happened.notes ≡ length notes
  pub written : take happened.notes after ≡ map passing_of notes
  pub rest : drop happened.notes after ≡ drop happened.notes before
  pub done : happened.halt ≡ halt.Done → happened.amount ≡ what.amount
  pub room : happened.halt ≡ halt.Full → min (length before) MOST_PASSED < happened.notes + MOST_PASSED
  pub spent : happened.halt ≡ halt.Spent → has_stamp new.session.core ≡ false
  pub early : happened.halt ≢ halt.Done → happened.halt ≢ halt.Streaming → happened.amount < what.amount
  pub streaming : happened.halt ≡ halt.Streaming → old.session.reader.over ≡ false
  pub ended : old.session.reader.over ≡ false → happened.halt ≡ halt.Streaming
  pub nothing : happened.halt ≡ halt.Streaming → happened.amount ≡ 0
  pub catalog : new.catalog ≡ old.catalog
  pub mentioned : new.mentioned ≡ old.mentioned

-- what is left of it when so much has happened
abbrev pub left_of : Occurrences → ℕ → Occurrences
left_of what amount = record what { amount = what.amount - amount }

-- what is told if all has happened and no threshold was passed
abbrev pub AllQuiet : Happened → Type 0
AllQuiet happened = (happened.halt ≡ halt.Done) × (happened.notes ≡ 0)

-- the first of them happens to its end and passes no threshold, and so it goes on
pub record GoesOn (old : LibraryView) (what left : Occurrences) (out : List Passing) (Rest : LibraryView → Type 0) : Type 0 where
  pub later : LibraryView
  pub happened : Happened
  pub has : HasHappened old later (happening_of what) happened out out
  pub quiet : AllQuiet happened
  pub remains : left ≡ left_of what happened.amount
  pub rest : Rest later

-- the first of them passes thresholds or does not happen to its end, so those after it stay
pub record StopsAt (old new : LibraryView) (what left : Occurrences) (whats lefts : List Occurrences) (happened : Happened) (before after : List Passing) : Type 0 where
  pub has : HasHappened old new (happening_of what) happened before after
  pub loud : AllQuiet happened → ⊥
  pub remains : left ≡ left_of what happened.amount
  pub rest : lefts ≡ whats

-- nothing is left to happen
pub record IsAll (old new : LibraryView) (happened : Happened) (before after : List Passing) : Type 0 where
  pub same : new ≡ old
  pub quiet : AllQuiet happened
  pub kept : after ≡ before

-- These happen one after another, up to the first that passes thresholds or does not happen to its end, if there is one. What is told is told of the last
-- that happens.
unfoldable pub HaveHappened : LibraryView → LibraryView → List Occurrences → List Occurrences → Happened → List Passing → List Passing → Type 0
HaveHappened old new [] [] happened before after = IsAll old new happened before after
HaveHappened old new [] (v ∷ vs) happened before after = ⊥
HaveHappened old new (w ∷ ws) [] happened before after = ⊥
HaveHappened old new (w ∷ ws) (v ∷ vs) happened before after =
    GoesOn old w v before (λ later. HaveHappened later new ws vs happened before after) ⊎ StopsAt old new w v ws vs happened before after

-- this was told
pub record Told (old new : LibraryView) (whats lefts : List Occurrences) (answer : ℤ) (count : ℕ) (before after : List Passing) : Type 0 where
  pub happened : Happened
  pub have : HaveHappened old new whats lefts happened before after
  pub number : answer ≡ halt_number happened.halt
  pub told : count ≡ happened.notes

-- nothing is written by a call on a shut handle: PAPI_ENOINIT
pub record IsShut (whats lefts : List Occurrences) (answer : ℤ) (old_count count : ℕ) (before after : List Passing) : Type 0 where
  pub number : answer ≡ negsuc 15
  pub left : lefts ≡ whats
  pub told : count ≡ old_count
  pub kept : after ≡ before

-- the same through a handle
abbrev pub Happens : Option LibraryView → Option LibraryView → List Occurrences → List Occurrences → ℤ → ℕ → ℕ → List Passing → List Passing → Type 0
Happens old new whats lefts number old_told told before after =
    Through old new (λ o n. Told o n whats lefts number told before after) (IsShut whats lefts number old_told told before after)
