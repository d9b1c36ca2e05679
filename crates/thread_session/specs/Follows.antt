-- What calls on a session do to the accounts for which it stands.
use Rattle.std.specs.Prelude.{ℕ, ◌≡◌, ◌<◌, Bool, true, false, List, [], ◌∷◌, ◌++◌, length, Some}
use Rattle.papi_base.specs.declared.occurrence.Occ.{Occ}
use Rattle.papi_base.specs.Streams.{Coming}
use Rattle.overflow_dispatch.specs.Notes.{PartAdded}
use Rattle.overflow_dispatch.specs.declared.handler.Note.{Note}
use Rattle.postfix_rules.specs.Presets.{Book}
use Rattle.session_model.specs.CallTypes.{Call}
use Rattle.call_type.specs.declared.call.Call.TheVariants as call
use Rattle.session_model.specs.declared.reply.Body.TheVariants as body
use Rattle.session_model.specs.declared.reply.Ran.{Ran}
use Rattle.session_model.specs.declared.reply.Reply.{Reply}
use Rattle.session_model.specs.Account.{Account}
use Rattle.session_model.specs.Step.{code_of, step}
use Rattle.session_model.specs.Thresholds.{notes_at, notes_over}
use Rattle.stream_reader.specs.Reader.{coming}
use Rattle.thread_core.specs.Following.{Follows}
use Rattle.thread_core.specs.Stands.{CoreStands}
use Rattle.thread_session.specs.Prospects.{CanCome}
use Rattle.thread_session.specs.SessionView.{SessionView}
use Rattle.thread_session.specs.Stands.{Stands, to_come}

-- a run, which alone consumes occurrences and takes memory
abbrev pub is_run : Call → Bool
is_run (call.Run n) = true
is_run made = false

-- the reply of a run
abbrev pub run_reply : Ran → Reply
run_reply ran = record { code = code_of ran.ended; body = body.Ran ran }

-- the account, if this is to come
abbrev pub expecting : Coming → Account → Account
expecting c a = record a { rest = c.rest; mark = c.mark }

-- Told or not, the call does and replies and notes what the step does, as if this was to come; if it is told what is to come, this is.
pub record FollowsAs (book : Book) (old new : SessionView) (made : Call) (answer : Reply) (before after : List Note) : Type 0 where
  pub expected : Coming
  pub core : (a : Account) → CoreStands book old.core a → CoreStands book new.core (step book old.core.shape (expecting expected a) made).account
  pub reply : (a : Account) → CoreStands book old.core a → answer ≡ (step book old.core.shape (expecting expected a) made).reply
  pub notes : (a : Account) → CoreStands book old.core a → after ≡ before ++ (step book old.core.shape (expecting expected a) made).notes
  pub told : (c : Coming) → coming old.reader ≡ Some c → c ≡ expected
  pub left : (a : Account) → CoreStands book old.core a → coming old.reader ≡ Some expected
      → coming new.reader ≡ Some (to_come (step book old.core.shape (expecting expected a) made).account)

-- Told or not, the call does and replies and notes what the step does, as if that was to come of which this is left.
pub record FollowsTo (book : Book) (old new : SessionView) (made : Call) (answer : Reply) (before after : List Note) (left : Coming) : Type 0 where
  pub expected : Coming
  pub can_come : CanCome old.reader expected
  pub core : (a : Account) → CoreStands book old.core a → CoreStands book new.core (step book old.core.shape (expecting expected a) made).account
  pub reply : (a : Account) → CoreStands book old.core a → answer ≡ (step book old.core.shape (expecting expected a) made).reply
  pub notes : (a : Account) → CoreStands book old.core a → after ≡ before ++ (step book old.core.shape (expecting expected a) made).notes
  pub comes_then : (a : Account) → CoreStands book old.core a → to_come (step book old.core.shape (expecting expected a) made).account ≡ left

-- Told or not, memory was refused in the call: some of the first notes of the step were taken, as if that was to come of which this is left.
pub record IsCutTo (book : Book) (old : SessionView) (made : Call) (before after : List Note) (left : Coming) : Type 0 where
  pub expected : Coming
  pub can_come : CanCome old.reader expected
  pub notes : (a : Account) → CoreStands book old.core a → PartAdded before (step book old.core.shape (expecting expected a) made).notes after

-- the account after these occurrences
abbrev pub consuming : List Occ → Account → Account
consuming os a = record a { past = a.past ++ os }

-- Told or not, memory was refused in a run: at an occurrence that has passed thresholds. It was consumed, and before it these were.
-- All their notes were taken, and some of the first of its own, but not all.
pub record IsCut (book : Book) (old new : SessionView) (n : ℕ) (before after : List Note) : Type 0 where
  pub earlier : List Occ
  pub last : Occ
  pub below : length earlier < n
  pub core : (a : Account) → CoreStands book old.core a → CoreStands book new.core (consuming (earlier ++ last ∷ []) a)
  pub notes : (a : Account) → CoreStands book old.core a
      → PartAdded (before ++ notes_over book a.thread a.sets a.past earlier) (notes_at book a.thread (a.past ++ earlier) last 0 a.sets) after
  pub told : (a : Account) → Stands book old a
      → (later : List Occ) × (a.rest ≡ earlier ++ last ∷ later) × (coming new.reader ≡ Some (record { rest = later; mark = a.mark }))
  pub came : (left : Coming) → CanCome new.reader left → CanCome old.reader (record { rest = earlier ++ last ∷ left.rest; mark = left.mark })

-- No other call is refused memory.
abbrev pub IsCutIn : Book → SessionView → SessionView → Call → List Note → List Note → Type 0
IsCutIn book old new (call.Run n) before after = IsCut book old new n before after
IsCutIn book old new made before after = ⊥

-- A call that is not a run does and replies what the step does, and leaves the reader.
pub record Does (book : Book) (old new : SessionView) (made : Call) (answer : Reply) : Type 0 where
  pub kept : Follows book old.core new.core made answer
  pub reader : new.reader ≡ old.reader
  pub stands : (a : Account) → Stands book old a → Stands book new (step book old.core.shape a made).account
  pub reply : (a : Account) → Stands book old a → answer ≡ (step book old.core.shape a made).reply
