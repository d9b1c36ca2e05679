-- What a call leaves whose reply is kept in a list of replies.
use Rattle.std.specs.Prelude.{◌≡◌, List, [], ◌∷◌, ◌++◌, Result, OnOk, OnErr}
use Rattle.papi_base.specs.Streams.{Coming}
use Rattle.overflow_dispatch.specs.Notes.{Begun}
use Rattle.overflow_dispatch.specs.declared.handler.Note.{Note}
use Rattle.postfix_rules.specs.Presets.{Book}
use Rattle.session_model.specs.CallTypes.{Call}
use Rattle.session_model.specs.declared.reply.Reply.{Reply}
use Rattle.session_model.specs.Account.{Account}
use Rattle.session_model.specs.Step.{step}
use Rattle.thread_core.specs.CoreView.{CoreView}
use Rattle.thread_core.specs.Following.{Follows}
use Rattle.thread_core.specs.Stands.{CoreStands}
use Rattle.thread_session.specs.Faults.{FaultsRose, IsFaultReply, fault_count}
use Rattle.thread_session.specs.Follows.{Does, FollowsAs, FollowsTo, expecting}
use Rattle.thread_session.specs.Prospects.{CanCome}
use Rattle.thread_session.specs.SessionView.{SessionView}

-- one reply more if there was memory for it, and none else
pub record OneMore {T E : Type 0} (result : Result T E) (before after : List Reply) (reply : Reply) : Type 0 where
  pub ok : OnOk result (after ≡ before ++ reply ∷ [])
  pub err : OnErr result (after ≡ before)

-- a call that is not a run was made on a core, whether or not there was memory for its reply
pub record CoreKeeps {T E : Type 0} (result : Result T E) (book : Book) (old new : CoreView) (made : Call) (before after : List Reply) : Type 0 where
  pub reply : Reply
  pub follows : Follows book old new made reply
  pub kept : OneMore result before after reply

-- so on a session
pub record Keeps {T E : Type 0} (result : Result T E) (book : Book) (old new : SessionView) (made : Call) (before after : List Reply) : Type 0 where
  pub reply : Reply
  pub does : Does book old new made reply
  pub kept : OneMore result before after reply

-- Told or not, the call was made, and this is its reply.
pub record IsReplied (book : Book) (old new : SessionView) (made : Call) (reply : Reply) (before after : List Note) : Type 0 where
  pub follows : FollowsAs book old new made reply before after
  pub towards : (left : Coming) → CanCome new.reader left → FollowsTo book old new made reply before after left
  pub faulty : IsFaultReply reply → FaultsRose (fault_count old.reader) (fault_count new.reader)

-- Told or not, memory was refused in the call or for its reply: some of the first notes of the step were taken, or all, as if that
-- was to come of which this is left.
pub record IsStarvedTo (book : Book) (old : SessionView) (made : Call) (before after : List Note) (left : Coming) : Type 0 where
  pub expected : Coming
  pub can_come : CanCome old.reader expected
  pub notes : (a : Account) → CoreStands book old.core a → Begun before (step book old.core.shape (expecting expected a) made).notes after
