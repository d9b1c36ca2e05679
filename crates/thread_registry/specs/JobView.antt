-- What is seen of a thread's job, before and after its work.
use Rattle.std.specs.Prelude.{◌≡◌, ℕ, ◌<◌, Bool, false, List, [], ◌∷◌, All, ◌++◌, length, take}
use Rattle.std.specs.Bool.{MatchBool}
use Rattle.postfix_rules.specs.Presets.{Book}
use Rattle.overflow_dispatch.specs.declared.handler.Note.{Note}
use Rattle.overflow_dispatch.specs.Notes.{Begun, Grown}
use Rattle.session_model.specs.CallTypes.{Call}
use Rattle.session_model.specs.declared.reply.Reply.{Reply}
use Rattle.session_model.specs.Account.{Account}
use Rattle.session_model.specs.Conditions.{IsGood}
use Rattle.session_model.specs.Step.{account_after, replies_to, notes_to}
use Rattle.thread_session.specs.Faults.{FaultsKept, FaultsRose, IsFaultReply, fault_count}
use Rattle.thread_session.specs.SessionView.{SessionView}
use Rattle.papi_base.specs.Streams.{Coming}
use Rattle.thread_core.specs.Stands.{CoreStands}
use Rattle.thread_session.specs.Prospects.{CanCome}
use Rattle.thread_session.specs.Stands.{IsReady, Stands, to_come}

-- the session, what the handler was told, the calls to make, the replies so far, and whether memory was refused
pub record JobView : Type 0 where
  pub session : SessionView
  pub notes : List Note
  pub calls : List Call
  pub replies : List Reply
  pub starved : Bool

-- the session and the calls meet the conditions of calls with this book
pub record CanWork (book : Book) (session : SessionView) (calls : List Call) : Type 0 where
  pub ready : IsReady book session
  pub good : All (IsGood book session.core.shape) calls

-- These replies were made, whether or not the session's source tells its bytes. One that says that the source failed comes only if the count of faults rose.
pub record Replied (x y : JobView) (made : List Reply) : Type 0 where
  pub appended : y.replies ≡ x.replies ++ made
  pub counted : y.starved ≡ false → length made ≡ length x.calls
  pub faulty : All (λ r. IsFaultReply r → FaultsRose (fault_count x.session.reader) (fault_count y.session.reader)) made

-- all calls were made, on a session that stood for the account
pub record Finished (book : Book) (a : Account) (x y : JobView) : Type 0 where
  pub stands : Stands book y.session (account_after book x.session.core.shape a x.calls)
  pub replies : y.replies ≡ x.replies ++ replies_to book x.session.core.shape a x.calls
  pub notes : y.notes ≡ x.notes ++ notes_to book x.session.core.shape a x.calls

-- memory was refused at one call: the replies of the calls before it are there, and a part of the notes
pub record CutShort (book : Book) (a : Account) (x y : JobView) : Type 0 where
  pub replies : (k : ℕ) × (k < length x.calls) × (y.replies ≡ x.replies ++ take k (replies_to book x.session.core.shape a x.calls))
  pub notes : Begun x.notes (notes_to book x.session.core.shape a x.calls) y.notes

-- all calls were made, and this is left to come
pub record FinishedTo (book : Book) (a : Account) (x y : JobView) (left : Coming) : Type 0 where
  pub core : CoreStands book y.session.core (account_after book x.session.core.shape a x.calls)
  pub comes_then : to_come (account_after book x.session.core.shape a x.calls) ≡ left
  pub replies : y.replies ≡ x.replies ++ replies_to book x.session.core.shape a x.calls
  pub notes : y.notes ≡ x.notes ++ notes_to book x.session.core.shape a x.calls

-- Told or not, the calls were made as if that was to come of which this is left.
pub record WorkedTo (book : Book) (x y : JobView) (left : Coming) : Type 0 where
  pub expected : Coming
  pub can_come : CanCome x.session.reader expected
  pub outcome : (a : Account) → CoreStands book x.session.core a → to_come a ≡ expected → MatchBool y.starved (CutShort book a x y) (FinishedTo book a x y left)

-- y is the job x after its work
pub record Worked (book : Book) (x y : JobView) : Type 0 where
  pub calls : y.calls ≡ x.calls
  pub shape : y.session.core.shape ≡ x.session.core.shape
  pub ready : IsReady book y.session
  pub faults : FaultsKept (fault_count x.session.reader) (fault_count y.session.reader)
  pub grown : Grown x.notes y.notes
  pub replied : (made : List Reply) × Replied x y made
  pub outcome : (a : Account) → Stands book x.session a → MatchBool y.starved (CutShort book a x y) (Finished book a x y)
  pub towards : (left : Coming) → CanCome y.session.reader left → WorkedTo book x y left

-- a job by its parts
abbrev pub seen_of : SessionView → List Note → List Call → List Reply → Bool → JobView
seen_of session notes calls replies starved = record { session = session; notes = notes; calls = calls; replies = replies; starved = starved }

-- a job without calls stays as it was, and another was worked
abbrev pub WorkedOrIdleOn : List Call → Book → JobView → JobView → Type 0
WorkedOrIdleOn [] book x y = y ≡ x
WorkedOrIdleOn (c ∷ cs) book x y = Worked book x y

-- y is the job x after its work, if it has any
abbrev pub WorkedOrIdle : Book → JobView → JobView → Type 0
WorkedOrIdle book x y = WorkedOrIdleOn x.calls book x y
