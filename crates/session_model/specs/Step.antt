-- What a call does to a thread's account, what it replies, and what it notes: the manual pages of PAPI's low-level calls.
use Rattle.std.specs.Prelude.{ℕ, min, nat_lt, Bool, true, false, if◌then◌else◌, List, [], ◌∷◌, ◌++◌, take, drop, length, Option, Some, None}
use Rattle.papi_base.specs.declared.code.Code.{Code}
use Rattle.papi_base.specs.declared.code.Code.TheVariants as code
use Rattle.overflow_dispatch.specs.declared.handler.Note.{Note}
use Rattle.postfix_rules.specs.Presets.{Book}
use Rattle.session_model.specs.CallTypes.{Call}
use Rattle.call_type.specs.declared.call.Call.TheVariants as call
use Rattle.session_model.specs.declared.reply.Body.TheVariants as body
use Rattle.session_model.specs.declared.reply.Ended.{Ended}
use Rattle.session_model.specs.declared.reply.Ended.TheVariants as ended
use Rattle.session_model.specs.declared.reply.Reply.{Reply}
use Rattle.event_sets.specs.declared.refusal.Refusal.{Refusal}
use Rattle.event_sets.specs.AtRest.{Widths}
use Rattle.papi_base.specs.Streams.{Mark, Dry, Bad, Fault}
use Rattle.session_model.specs.Account.{Account}
use Rattle.session_model.specs.Thresholds.{notes_over}
use Rattle.session_model.specs.Faces.{faces_of}
use Rattle.session_model.specs.Refusals.{refusal_of}
use Rattle.session_model.specs.Changes.{new_kept, kept_after, sets_after}
use Rattle.session_model.specs.Replies.{refused, reply_over, sight_of_kept}

-- what a call gives
pub record StepOutcome : Type 0 where
  pub account : Account
  pub reply : Reply
  pub notes : List Note

-- how a run ends that found fewer occurrences than it asked for
abbrev pub ended_at : Mark → Ended
ended_at Dry = ended.Going
ended_at (Bad line cause) = ended.Bad line cause
ended_at Fault = ended.Fault

-- a run that met a bad line or a fault replies with PAPI_ESYS
abbrev pub code_of : Ended → Code
code_of ended.Going = code.Ok
code_of (ended.Bad line cause) = code.Esys
code_of ended.Fault = code.Esys

-- a run of n occurrences took k, and made these notes
abbrev pub ran_reply : ℕ → List Note → Ended → Reply
ran_reply k notes e = record { code = code_of e; body = body.Ran (record { consumed = k; notes = length notes; ended = e }) }

-- the account after the next k occurrences; a run that wanted more has met the mark
abbrev pub advanced : Bool → ℕ → Account → Account
advanced short k a = record a { past = a.past ++ take k a.rest; rest = drop k a.rest; mark = if short then Dry else a.mark }

-- the notes of the next k occurrences
abbrev pub coming_notes : Book → ℕ → Account → List Note
coming_notes book k a = notes_over book a.thread a.sets a.past (take k a.rest)

-- a run that takes the next k occurrences; it is short if it asked for more
abbrev pub ran : Book → Bool → ℕ → Account → StepOutcome
ran book short k a = record {
  account = advanced short k a;
  reply = ran_reply k (coming_notes book k a) (if short then ended_at a.mark else ended.Going);
  notes = coming_notes book k a;
}

-- a call that is not refused
abbrev pub performed : Book → Widths → Account → Call → StepOutcome
performed book shape a (call.Run n) = ran book (nat_lt (length a.rest) n) (min n (length a.rest)) a
performed book shape a call.Register = record {
  account = record a { registered = true };
  reply = reply_over book (sight_of_kept book shape a.past) a.sets call.Register;
  notes = [];
}
performed book shape a call.Unregister = record {
  account = record a { registered = false };
  reply = reply_over book (sight_of_kept book shape a.past) a.sets call.Unregister;
  notes = [];
}
performed book shape a call = record {
  account = record a { sets = sets_after new_kept (kept_after book a.past) call a.sets };
  reply = reply_over book (sight_of_kept book shape a.past) a.sets call;
  notes = [];
}

-- a refused call changes nothing
abbrev pub unless : Option Refusal → Account → StepOutcome → StepOutcome
unless (Some r) a outcome = record { account = a; reply = refused r; notes = [] }
unless None a outcome = outcome

-- how the call is refused in this account, if it is
abbrev pub account_refusal : Book → Widths → Account → Call → Option Refusal
account_refusal book shape a call = refusal_of book shape a.registered (faces_of a.sets) call

-- What one call does: a refused call changes nothing and replies with its refusal, any other one is performed.
abbrev pub step : Book → Widths → Account → Call → StepOutcome
step book shape a call = unless (account_refusal book shape a call) a (performed book shape a call)

-- what is left after some calls, their replies, and their notes
abbrev pub account_after : Book → Widths → Account → List Call → Account
account_after book shape a [] = a
account_after book shape a (call ∷ calls) = account_after book shape (step book shape a call).account calls

-- the reply to each of some calls, one after another
abbrev pub replies_to : Book → Widths → Account → List Call → List Reply
replies_to book shape a [] = []
replies_to book shape a (call ∷ calls) = (step book shape a call).reply ∷ replies_to book shape (step book shape a call).account calls

-- the notes of some calls, one after another
abbrev pub notes_to : Book → Widths → Account → List Call → List Note
notes_to book shape a [] = []
notes_to book shape a (call ∷ calls) = (step book shape a call).notes ++ notes_to book shape (step book shape a call).account calls
