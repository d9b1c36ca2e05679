-- What a call on a core replies, and what the core stands for afterwards: PAPI's low-level calls.
use Rattle.std.specs.Prelude.{ℤ, ◌≡◌, ◌≢◌, Bool, true, false, List, Result, Ok, Err}
use Rattle.papi_base.specs.declared.code.Code.{Code}
use Rattle.papi_base.specs.declared.code.Code.TheVariants as code
use Rattle.postfix_rules.specs.Presets.{Book}
use Rattle.event_sets.specs.declared.refusal.Refusal.{Refusal}
use Rattle.event_sets.specs.declared.refusal.Refusal.TheVariants.{Plain}
use Rattle.session_model.specs.CallTypes.{Call}
use Rattle.call_type.specs.declared.call.Call.TheVariants as call
use Rattle.session_model.specs.declared.reply.Body.{Body}
use Rattle.session_model.specs.declared.reply.Body.TheVariants as body
use Rattle.session_model.specs.declared.reply.Reply.{Reply}
use Rattle.session_model.specs.Account.{Account}
use Rattle.session_model.specs.Replies.{done, plain, refused}
use Rattle.session_model.specs.Step.{step}
use Rattle.thread_core.specs.CoreView.{CoreView}
use Rattle.thread_core.specs.Stands.{AgreesWith, CoreStands}

-- For each account that the core stood for, it stands for the account after the call, and the reply is the account's. The number of
-- occurrences and the last one stay.
pub record Follows (book : Book) (old new : CoreView) (call : Call) (given : Reply) : Type 0 where
  pub account : (a : Account) → CoreStands book old a → CoreStands book new (step book old.shape a call).account
  pub reply : (a : Account) → CoreStands book old a → given ≡ (step book old.shape a call).reply
  pub agrees : AgreesWith book new
  pub shape : new.shape ≡ old.shape
  pub taken : new.taken ≡ old.taken
  pub last : new.last ≡ old.last

-- the reply of a call that gives something of its own, or a code
abbrev pub reply_of : {X : Type 0} → (X → Body) → Result X Code → Reply
reply_of f (Ok x) = done (f x)
reply_of f (Err c) = plain c

-- a refusal is never PAPI_OK
abbrev pub IsRefusal : Refusal → Type 0
IsRefusal r = r ≢ Plain code.Ok

-- the reply of a call that may be refused by a conflict
abbrev pub changed_reply : {X : Type 0} → Result X Refusal → Reply
changed_reply (Ok x) = plain code.Ok
changed_reply (Err r) = refused r

-- the reply of a call that writes values if its code is OK
abbrev pub values_reply : Code → List ℤ → Reply
values_reply code.Ok values = done (body.Values values)
values_reply c values = plain c

-- the calls on the sets: all but runs and the registration
abbrev pub is_on_sets : Call → Bool
is_on_sets (call.Run n) = false
is_on_sets call.Register = false
is_on_sets call.Unregister = false
is_on_sets made = true
