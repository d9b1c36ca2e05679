-- What a call that is not refused replies, by its manual page: PAPI_read(3), PAPI_state(3), PAPI_list_events(3) and so on.
use Rattle.std.specs.Prelude.{ℕ, ℤ, ◌+◌, Bool, if◌then◌else◌, List, Option, is_some}
use Rattle.std.specs.Option.{option_map_or}
use Rattle.papi_base.specs.declared.occurrence.Occ.{Occ}
use Rattle.papi_base.specs.declared.code.Code.{Code}
use Rattle.papi_base.specs.declared.code.Code.TheVariants as code
use Rattle.postfix_rules.specs.Presets.{Book}
use Rattle.session_model.specs.CallTypes.{Call}
use Rattle.call_type.specs.declared.call.Call.TheVariants as call
use Rattle.session_model.specs.declared.reply.Body.{Body}
use Rattle.session_model.specs.declared.reply.Body.TheVariants as body
use Rattle.session_model.specs.declared.reply.Reply.{Reply}
use Rattle.event_sets.specs.declared.refusal.Refusal.{Refusal}
use Rattle.event_sets.specs.declared.refusal.Refusal.TheVariants.{Plain, Conflict}
use Rattle.session_model.specs.declared.reply.Assigned.{Assigned}
use Rattle.event_sets.specs.Assigning.{counters_for}
use Rattle.event_sets.specs.AtRest.{Widths, AtRest, set_natives, is_armed}
use Rattle.session_model.specs.Account.{Kept}
use Rattle.session_model.specs.Values.{values_of, accumulated}
use Rattle.session_model.specs.Registers.{register_of}
use Rattle.session_model.specs.Faces.{at, free}

-- a reply with a code alone
abbrev pub plain : Code → Reply
plain c = record { code = c; body = body.Nothing }

-- PAPI_OK with results
abbrev pub done : Body → Reply
done b = record { code = code.Ok; body = b }

-- a refusal; a conflict shows its clash
abbrev pub refused : Refusal → Reply
refused (Plain c) = plain c
refused (Conflict clash) = record { code = code.Ecnflct; body = body.Clash clash }

-- PAPI_state(3)
abbrev pub state_bits : Bool → AtRest → ℕ
state_bits running s = (if running then 2 else 1) + (if is_armed s then 0x10 else 0) + (if is_some s.slice then 0x40 else 0)

-- the natives of a set, and the counter of each
abbrev pub assigned : Book → AtRest → Assigned
assigned book s = record { natives = set_natives book s; counters = counters_for (set_natives book s) }

-- what replies show of what is kept of a set
pub record Sight (X : Type 0) : Type 0 where
  pub set : X → AtRest
  pub running : X → Bool
  pub values : X → List ℤ
  pub accumulated : X → List ℤ
  pub register : X → ℕ → ℕ

-- what replies show of a set that is kept by its window
abbrev pub sight_of_kept : Book → Widths → List Occ → Sight Kept
sight_of_kept book shape past = record {
  set = λ s. s.set;
  running = λ s. s.running;
  values = values_of book past;
  accumulated = accumulated book past;
  register = register_of book shape past;
}

-- shows the set under the number
abbrev pub shown : {X : Type 0} → (X → Body) → List (Option X) → ℕ → Reply
shown f sets k = done (option_map_or f (at sets k) body.Nothing)

-- the reply to a call that is not refused, and is not a run
abbrev pub reply_over : {X : Type 0} → Book → Sight X → List (Option X) → Call → Reply
reply_over book sight sets call.Create = done (body.SetNumber (free sets))
reply_over book sight sets (call.Stop k) = shown (λ s. body.Values (sight.values s)) sets k
reply_over book sight sets (call.Read k) = shown (λ s. body.Values (sight.values s)) sets k
reply_over book sight sets (call.Accum k) = shown (λ s. body.Values (sight.accumulated s)) sets k
reply_over book sight sets (call.State k) = shown (λ s. body.State (state_bits (sight.running s) (sight.set s))) sets k
reply_over book sight sets (call.ListEvents k) = shown (λ s. body.Events (sight.set s).events) sets k
reply_over book sight sets (call.Assign k) = shown (λ s. body.Assigned (assigned book (sight.set s))) sets k
reply_over book sight sets (call.Raw k c) = shown (λ s. body.Register (sight.register s c)) sets k
reply_over book sight sets call = plain code.Ok
