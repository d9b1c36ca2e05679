-- What the jobs of the threads take, before the handlers and the readers are lent to them.
use Rattle.std.specs.Prelude.{ℕ, ◌≡◌, ◌<◌, List, [], ◌∷◌, length, Option, Some, None, map, slice_get, slice_index_or}
use Rattle.papi_base.specs.declared.limits.TheConstants.{THREADS}
use Rattle.event_sets.specs.AtRest.{Widths}
use Rattle.session_model.specs.CallTypes.{Call}
use Rattle.session_model.specs.Fitness.{IsShape}
use Rattle.thread_core.specs.CoreView.{CoreView, opening_core}
use Rattle.thread_registry.specs.declared.runner.plan.PlanLine.{PlanLine}
use Rattle.thread_registry.specs.declared.runner.works.Work.{Work}
use Rattle.thread_registry.specs.Plans.{planned_at}

-- the calls of a thread
abbrev pub calls_of : Work → List Call
calls_of w = w.calls.items

-- a new core for a thread that has calls
abbrev pub core_for : Widths → ℕ → List Call → Option CoreView
core_for shape thread [] = None
core_for shape thread (c ∷ cs) = Some (opening_core thread shape)

-- the thread has a new core if it has calls, and none was replied to
pub record IsWork (shape : Widths) (thread : ℕ) (w : Work) : Type 0 where
  pub core : w.core ≡ core_for shape thread w.calls.items
  pub shaped : 0 < length w.calls.items → IsShape shape
  pub none : w.replies ≡ []

-- so is the work of each thread
pub record AreWorks (shape : Widths) (works : List Work) : Type 0 where
  pub each : (t : ℕ) (w : Work) → slice_get works t ≡ Some w → IsWork shape t w

-- each thread has its calls of the plan
abbrev pub AreDealt : List PlanLine → List Work → Type 0
AreDealt plan works = (t : ℕ) → t < THREADS → slice_index_or (map calls_of works) t [] ≡ planned_at t plan
