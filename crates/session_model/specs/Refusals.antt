-- Which calls are refused, and how: the codes are those of the manual pages, and when each comes, and in which order, is a
-- choice of this project.
use Rattle.std.specs.Prelude.{ℕ, Bool, true, false, not, ◌==◌, nat_le, if◌then◌else◌, List, [], ◌∷◌, length, Option, Some, None, Ok, Err, is_some}
use Rattle.std.specs.Option.{option_and_then}
use Rattle.std.specs.List.{list_any, list_all}
use Rattle.papi_base.specs.declared.native.EventRef.{EventRef}
use Rattle.papi_base.specs.declared.code.Code.{Code}
use Rattle.papi_base.specs.declared.code.Code.TheVariants.{Einval, Ecnflct, Enotrun, Eisrun, Enoevst, Enocmp, Ecount, Ecombo}
use Rattle.postfix_rules.specs.Presets.{Book}
use Rattle.session_model.specs.CallTypes.{Call}
use Rattle.call_type.specs.declared.call.Call.TheVariants as call
use Rattle.event_sets.specs.declared.refusal.Clash.{Clash}
use Rattle.event_sets.specs.declared.refusal.Refusal.{Refusal}
use Rattle.event_sets.specs.declared.refusal.Refusal.TheVariants.{Plain, Conflict}
use Rattle.event_sets.specs.Assigning.{counters_for}
use Rattle.event_sets.specs.AtRest.{Widths, AtRest, set_natives, has_event, cannot_take, is_full, clash_with, is_armed}
use Rattle.event_sets.specs.AtRest.{cannot_arm, is_bad_threshold, shares_native, is_bad_domain, is_bad_slice, is_other, widths_at}
use Rattle.session_model.specs.Faces.{Face, at, is_absent, has, runs, is_running, component_runs}

-- a refusal by a code alone, if it comes
abbrev pub row : Bool → Code → Bool × Refusal
row comes code = (comes, Plain code)

-- PAPI_add_event(3): what stands in the way of the set's natives with the new ones
abbrev pub clash_at : Book → EventRef → List (Option Face) → ℕ → Option Clash
clash_at book e faces k = option_and_then (λ f. clash_with book e f.set) (at faces k)

-- PAPI_ECNFLCT with the clash that is to blame, if one is found
abbrev pub conflict_of : Option Clash → Refusal
conflict_of None = Plain Ecnflct
conflict_of (Some clash) = Conflict clash

-- the refusal by a clash, if there is one
abbrev pub conflict_row : Option Clash → Bool × Refusal
conflict_row clash = (is_some clash, conflict_of clash)

-- the set has an event
abbrev pub has_events : AtRest → Bool
has_events s = not (length s.events == 0)

-- the set's natives take turns
abbrev pub is_multiplexed : AtRest → Bool
is_multiplexed s = is_some s.slice

-- the counter is one of the set's component
abbrev pub has_counter : Widths → ℕ → AtRest → Bool
has_counter shape c s = not (nat_le (length (widths_at shape s.component)) c)

-- the set is not multiplexed, and none of its natives is on the counter
abbrev pub leaves_free_by : Option ℕ → Book → ℕ → AtRest → Bool
leaves_free_by None book c s = not (list_any (λ k. k == c) (counters_for (set_natives book s)))
leaves_free_by (Some slice) book c s = false

-- the same, by the set's own slice
abbrev pub leaves_free : Book → ℕ → AtRest → Bool
leaves_free book c s = leaves_free_by s.slice book c s

-- the refusals of a call on a set that must be there and stopped: these two, and then the others
abbrev pub stopped : List (Option Face) → ℕ → List (Bool × Refusal) → List (Bool × Refusal)
stopped faces k others = row (is_absent faces k) Enoevst ∷ row (runs faces k) Eisrun ∷ others

-- the refusals of a call in their order: whether each comes, and what it is
abbrev pub rows : Book → Widths → Bool → List (Option Face) → Call → List (Bool × Refusal)
rows book shape registered faces call.Register = []
rows book shape registered faces call.Unregister =
    row (list_any is_running faces) Eisrun
    ∷ row (not registered) Einval
    ∷ []
rows book shape registered faces call.Create = row (list_all (λ place. is_some place) faces) Ecount ∷ []
rows book shape registered faces (call.Destroy k) = stopped faces k (row (has has_events faces k) Einval ∷ [])
rows book shape registered faces (call.Cleanup k) = stopped faces k []
rows book shape registered faces (call.Add k (Err code)) = stopped faces k (row true code ∷ [])
rows book shape registered faces (call.Add k (Ok e)) =
    stopped faces k
    (row (has (cannot_take book e) faces k) Einval
    ∷ row (has (is_full book e) faces k) Ecount
    ∷ conflict_row (clash_at book e faces k)
    ∷ [])
rows book shape registered faces (call.Remove k (Err code)) = stopped faces k (row true code ∷ [])
rows book shape registered faces (call.Remove k (Ok e)) = stopped faces k (row (has (λ s. not (has_event e s)) faces k) Einval ∷ [])
rows book shape registered faces (call.AssignComponent k comp) =
    row (is_absent faces k) Enoevst
    ∷ row (nat_le (length shape) comp) Enocmp
    ∷ row (runs faces k) Eisrun
    ∷ row (has (λ s. is_other s.component (Some comp)) faces k) Einval
    ∷ []
rows book shape registered faces (call.SetDomain k bits) = stopped faces k (row (is_bad_domain bits) Einval ∷ [])
rows book shape registered faces (call.SetMultiplex k slice) =
    stopped faces k
    (row (is_bad_slice slice) Einval
    ∷ row (has is_armed faces k) Ecombo
    ∷ [])
rows book shape registered faces (call.Overflow k (Err code) t) = stopped faces k (row true code ∷ [])
rows book shape registered faces (call.Overflow k (Ok e) t) =
    stopped faces k
    (row (has (cannot_arm book e) faces k) Einval
    ∷ row (has (is_bad_threshold shape t) faces k) Einval
    ∷ row (has (shares_native book e t) faces k) Einval
    ∷ row (has is_multiplexed faces k) Ecombo
    ∷ [])
rows book shape registered faces (call.Start k) =
    stopped faces k
    (row (component_runs faces k) Eisrun
    ∷ row (has (λ s. not (has_events s)) faces k) Einval
    ∷ [])
rows book shape registered faces (call.Stop k) =
    row (is_absent faces k) Enoevst
    ∷ row (not (runs faces k)) Enotrun
    ∷ []
rows book shape registered faces (call.Read k) = row (is_absent faces k) Enoevst ∷ []
rows book shape registered faces (call.Accum k) = row (is_absent faces k) Enoevst ∷ []
rows book shape registered faces (call.Reset k) = row (is_absent faces k) Enoevst ∷ []
rows book shape registered faces (call.State k) = row (is_absent faces k) Enoevst ∷ []
rows book shape registered faces (call.ListEvents k) = row (is_absent faces k) Enoevst ∷ []
rows book shape registered faces (call.Assign k) =
    row (is_absent faces k) Enoevst
    ∷ row (has is_multiplexed faces k) Ecombo
    ∷ []
rows book shape registered faces (call.Raw k c) =
    row (is_absent faces k) Enoevst
    ∷ row (not (runs faces k)) Enotrun
    ∷ row (has (λ s. not (has_counter shape c s)) faces k) Einval
    ∷ row (has (leaves_free book c) faces k) Einval
    ∷ row (has is_multiplexed faces k) Ecombo
    ∷ []
rows book shape registered faces (call.Run n) = []

-- the first row that comes
abbrev pub first_of : List (Bool × Refusal) → Option Refusal
first_of [] = None
first_of (r ∷ rest) = if r.0 then Some r.1 else first_of rest

-- how a call is refused, if it is: by the first row that comes
abbrev pub refusal_of : Book → Widths → Bool → List (Option Face) → Call → Option Refusal
refusal_of book shape registered faces call = first_of (rows book shape registered faces call)
