-- Plans, and the script's lines of which they are made: the script is this project's own, docs/FORMATS.md.
use Rattle.std.specs.Prelude.{ℕ, ◌≡◌, ◌<◌, ◌==◌, if◌then◌else◌, List, [], ◌∷◌, ◌++◌, All, map, Option, Some, None, Result, Ok, Err, position, slice_get, unwrap_or, ⊤}
use Rattle.papi_base.specs.declared.native.EventRef.{EventRef}
use Rattle.papi_base.specs.declared.native.EventRef.TheVariants as event
use Rattle.papi_base.specs.declared.native.Native.{Native}
use Rattle.postfix_rules.specs.Presets.{Book}
use Rattle.event_sets.specs.AtRest.{Widths}
use Rattle.session_model.specs.CallTypes.{Asked, Call, Named}
use Rattle.call_type.specs.declared.call.Asked.{Asked as AskedOf}
use Rattle.call_type.specs.declared.call.Asked.TheVariants as asked
use Rattle.papi_base.specs.declared.code.Code.{Code}
use Rattle.session_model.specs.declared.line.Line.{Line}
use Rattle.session_model.specs.Conditions.{IsGood}
use Rattle.session_model.specs.World.{Setting, mentioned_after}
use Rattle.postfix_rules.specs.NativeCodes.{native_code, native_named}
use Rattle.thread_registry.specs.declared.runner.plan.PlanLine.{PlanLine}
use Rattle.papi_base.specs.declared.limits.TheConstants.{THREADS}

-- each line is of a thread that there is
pub record AreThreads (plan : List PlanLine) : Type 0 where
  pub each : All (λ l. l.thread < THREADS) plan

-- the event under a preset's row, or else a native
abbrev pub event_by : Option ℕ → Option Native → Option EventRef
event_by (Some row) native = Some (event.Preset row)
event_by None (Some n) = Some (event.Native n)
event_by None None = None

-- what a line asks for: a call; the code of an event, or the code with which its text was refused; the event of a code; the registered threads
abbrev pub Planned : Type 0
Planned = AskedOf Named (Result ℕ Code) (Option EventRef)

-- what a line asks for, looked up if these natives are mentioned
abbrev pub planned_by : Setting → List Native → Asked → Planned
planned_by at mentioned (asked.Call c) = asked.Call c
planned_by at mentioned (asked.CodeOf (Ok (event.Native n))) = asked.CodeOf (Ok (native_code mentioned n))
planned_by at mentioned (asked.CodeOf (Ok (event.Preset row))) = asked.CodeOf (Ok (unwrap_or (slice_get at.codes row) 0))
planned_by at mentioned (asked.CodeOf (Err c)) = asked.CodeOf (Err c)
planned_by at mentioned (asked.NameOf c) = asked.NameOf (event_by (position (λ x. x == c) at.codes) (native_named mentioned c))
planned_by at mentioned asked.Threads = asked.Threads

-- a thread and what it asks for
pub record Ask : Type 0 where
  pub thread : ℕ
  pub planned : Planned

-- a line of a plan without its number and word, which no reply depends on
abbrev pub ask_of : PlanLine → Ask
ask_of l = record { thread = l.thread; planned = l.planned }

-- what the lines of a script ask for, one after another, if these natives were mentioned before
abbrev pub asks_from : Setting → List Native → List Line → List Ask
asks_from at mentioned [] = []
asks_from at mentioned (l ∷ ls) =
    record { thread = l.thread; planned = planned_by at (mentioned_after mentioned l) l.asked }
    ∷ asks_from at (mentioned_after mentioned l) ls

-- the plan is that of the script's lines
pub record IsPlanOf (at : Setting) (script : List Line) (plan : List PlanLine) : Type 0 where
  pub asks : map ask_of plan ≡ asks_from at [] script

-- the calls that a line makes on its thread's session
abbrev pub calls_in : Planned → List Call
calls_in (asked.Call c) = c ∷ []
calls_in (asked.CodeOf c) = []
calls_in (asked.NameOf e) = []
calls_in asked.Threads = []

-- the thread's calls in a line
abbrev pub planned_calls : ℕ → PlanLine → List Call
planned_calls t l = if l.thread == t then calls_in l.planned else []

-- a thread's calls, in order
abbrev pub planned_at : ℕ → List PlanLine → List Call
planned_at t [] = []
planned_at t (l ∷ ls) = planned_calls t l ++ planned_at t ls

-- a call's event is one that the book holds and that fits the shape, or was refused by a code of names
abbrev pub IsGoodFor : Book → Widths → Planned → Type 0
IsGoodFor book shape (asked.Call c) = IsGood book shape c
IsGoodFor book shape (asked.CodeOf c) = ⊤
IsGoodFor book shape (asked.NameOf e) = ⊤
IsGoodFor book shape asked.Threads = ⊤

-- each call of a plan can be made over this book and shape
pub record AreGood (book : Book) (shape : Widths) (plan : List PlanLine) : Type 0 where
  pub each : All (λ l. IsGoodFor book shape l.planned) plan
