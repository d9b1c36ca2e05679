-- Runs from C: PAPI_overflow(3).
use Rattle.std.specs.Prelude.{ℕ, ℤ, ◌≡◌, ◌<◌, ◌+◌, ◌⊎◌, Bool, true, if◌then◌else◌, List, [], drop, length, map, negsuc, take, Option}
use Rattle.overflow_dispatch.specs.declared.handler.Note.{Note}
use Rattle.papi_base.specs.Codes.{number_of}
use Rattle.papi_c.specs.Faults.{fault_of}
use Rattle.papi_c.specs.Through.{Through}
use Rattle.papi_c.specs.declared.faults.StreamFault.{StreamFault}
use Rattle.papi_c.specs.declared.running.Passing.{Passing}
use Rattle.papi_calls.specs.Libraries.{LibraryView}
use Rattle.call_type.specs.declared.call.Call.TheVariants as call
use Rattle.session_model.specs.declared.reply.Ended.{Ended}
use Rattle.session_model.specs.Step.{code_of}
use Rattle.thread_session.specs.Follows.{FollowsAs, run_reply}
use Rattle.thread_session.specs.declared.filling.Filled.{Filled}
use Rattle.thread_session.specs.declared.filling.TheConstants.{MOST_PASSED}

-- a note, as C sees it
abbrev pub passing_of : Note → Passing
passing_of note = record { set = note.set; index = note.index; address = note.pc }

-- PAPI_EBUF if the run stopped early, else the code of its end
abbrev pub run_number : Bool → Ended → ℤ
run_number full ended = if full then negsuc 19 else number_of (code_of ended)

-- The run does and tells what the model's run of n occurrences does, or if it stopped early what the model's run of those does that were
-- consumed, and the fault says how it ended. Its notes stand at the first places, each of them, and what is past them stays. It stops early
-- only before an occurrence that might have needed more room than was left.
pub record Went (old new : LibraryView) (n : ℕ) (answer : ℤ) (consumed told : ℕ) (why : StreamFault) (before after : List Passing) : Type 0 where
  pub full : Bool
  pub ended : Ended
  pub notes : List Note
  pub follows : FollowsAs old.catalog.book old.session new.session
      (call.Run (if full then consumed else n)) (run_reply (record { consumed = consumed; notes = told; ended = ended })) [] notes
  pub number : answer ≡ run_number full ended
  pub fault : why ≡ fault_of ended
  pub counted : told ≡ length notes
  pub written : take told after ≡ map passing_of notes
  pub rest : drop told after ≡ drop told before
  pub room : full ≡ true → length before < told + MOST_PASSED
  pub early : full ≡ true → consumed < n
  pub catalog : new.catalog ≡ old.catalog
  pub mentioned : new.mentioned ≡ old.mentioned

-- a run into a place did this, and told that it did
abbrev pub HasRun : LibraryView → LibraryView → ℕ → Filled → List Passing → List Passing → Type 0
HasRun old new n filled before after =
    Went old new n (run_number filled.full filled.ran.ended) filled.ran.consumed filled.ran.notes (fault_of filled.ran.ended) before after

-- nothing happens, since memory is refused
pub record IsRefusedRun (old new : LibraryView) (answer : ℤ) (before after : List Passing) : Type 0 where
  pub same : new ≡ old
  pub number : answer ≡ negsuc 1
  pub kept : after ≡ before

-- the handle is shut, PAPI_ENOINIT, or memory is refused, PAPI_ENOMEM
abbrev pub IsUnrun : ℤ → Type 0
IsUnrun number = (number ≡ negsuc 15) ⊎ (number ≡ negsuc 1)

-- the same through a handle
abbrev pub Runs : Option LibraryView → Option LibraryView → ℕ → ℤ → ℕ → ℕ → StreamFault → List Passing → List Passing → Type 0
Runs old new n number consumed told fault before after =
    Through old new (λ o l. Went o l n number consumed told fault before after ⊎ IsRefusedRun o l number before after)
    ((number ≡ negsuc 15) × (after ≡ before))
