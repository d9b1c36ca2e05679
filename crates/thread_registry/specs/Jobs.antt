-- What is seen of the threads' jobs, before and after their work.
use Rattle.std.specs.Prelude.{ℕ, ◌+◌, ◌≡◌, Bool, false, List, [], ◌∷◌, All, map}
use Rattle.overflow_dispatch.specs.declared.handler.Note.{Note}
use Rattle.thread_registry.specs.Each.{Each}
use Rattle.postfix_rules.specs.Presets.{Book}
use Rattle.event_sets.specs.AtRest.{Widths}
use Rattle.session_model.specs.CallTypes.{Call}
use Rattle.session_model.specs.declared.reply.Reply.{Reply}
use Rattle.stream_reader.specs.Reader.{ReaderView}
use Rattle.thread_core.specs.CoreView.{opening_core}
use Rattle.thread_registry.specs.OpenedJobs.{unopened}
use Rattle.thread_registry.specs.JobView.{JobView, WorkedOrIdle, seen_of}
use Rattle.thread_registry.specs.declared.runner.works.Work.{Work}
use Rattle.thread_registry.specs.Works.{calls_of}

-- What is seen of a thread before its work: its reader, under a new core if it has calls, what its handler was told, and its calls.
abbrev pub before : Widths → ℕ → ReaderView → List Note → List Call → JobView
before shape t r ns [] = seen_of (unopened r) ns [] [] false
before shape t r ns (c ∷ cs) = seen_of (record { core = opening_core t shape; reader = r }) ns (c ∷ cs) [] false

-- so of each thread, from this thread on
abbrev pub befores_from : ℕ → Widths → List ReaderView → List (List Note) → List (List Call) → List JobView
befores_from t shape (r ∷ rs) (ns ∷ nss) (cs ∷ css) = before shape t r ns cs ∷ befores_from (t + 1) shape rs nss css
befores_from t shape [] nss css = []
befores_from t shape (r ∷ rs) [] css = []
befores_from t shape (r ∷ rs) (ns ∷ nss) [] = []

-- what is seen of all threads before these works, from thread 0 on
abbrev pub befores_of : Widths → List ReaderView → List (List Note) → List Work → List JobView
befores_of shape readers notes works = befores_from 0 shape readers notes (map calls_of works)

-- What the threads are left with: the list of each handler, its reader and its replies; and whether memory was refused in some job.
pub record Left (book : Book) (refused : Bool) (befores : List JobView) (notes : List (List Note)) (readers : List ReaderView)
    (replies : List (List Reply)) : Type 0 where
  pub afters : List JobView
  pub ran : Each (WorkedOrIdle book) befores afters
  pub told : notes ≡ map (λ y. y.notes) afters
  pub back : readers ≡ map (λ y. y.session.reader) afters
  pub replied : replies ≡ map (λ y. y.replies) afters
  pub whole : refused ≡ false → All (λ y. y.starved ≡ false) afters
