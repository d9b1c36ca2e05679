-- A set that does not run: what it holds, what its calls look at, and what they change.
use Rattle.std.specs.Prelude.{ℕ, ◌^◌, min, Bool, true, false, ◌||◌, ◌&&◌, not, ◌==◌, nat_le, nat_lt, List, [], ◌∷◌, ◌++◌}
use Rattle.std.specs.Prelude.{length, remove, Option, Some, None, slice_set}
use Rattle.std.specs.Option.{option_map_or}
use Rattle.std.specs.List.{list_any, position_or_len}
use Rattle.papi_base.specs.declared.bits.Domain.{Domain}
use Rattle.papi_base.specs.declared.native.Native.{Native}
use Rattle.papi_base.specs.declared.native.EventRef.{EventRef}
use Rattle.papi_base.specs.declared.limits.TheConstants.{LEAST_THRESHOLD, LONGEST_SLICE, MOST_SET_EVENTS, MOST_SET_NATIVES}
use Rattle.postfix_rules.specs.declared.rule.Rule.{Rule}
use Rattle.postfix_rules.specs.declared.rule.Rule.TheVariants as rule
use Rattle.postfix_rules.specs.Sameness.{same_event, same_native}
pub use Rattle.postfix_rules.specs.Fitting.{Widths, widths_at}
use Rattle.postfix_rules.specs.Presets.{Book, component_of_event, lead, natives_of, rule_of_event}
use Rattle.event_sets.specs.declared.refusal.Clash.{Clash}
use Rattle.event_sets.specs.Assigning.{clash_of}

-- its events, for each its threshold or 0, its component once that is fixed, its domain, and its slice if it is multiplexed
pub record AtRest : Type 0 where
  pub events : List EventRef
  pub thresholds : List ℕ
  pub component : Option ℕ
  pub domain : Domain
  pub slice : Option ℕ

-- a new set: PAPI_create_eventset(3), the domain of PAPI_set_domain(3) being that of the user
abbrev pub new_set : AtRest
new_set = record { events = []; thresholds = []; component = None; domain = record { 0 = 1 }; slice = None }

-- the event is in the set
abbrev pub has_event : EventRef → AtRest → Bool
has_event e s = list_any (same_event e) s.events

-- the event's index in the set, or the number of its events
abbrev pub place_of : EventRef → AtRest → ℕ
place_of e s = position_or_len (same_event e) s.events

-- the natives of the set's events, each once
abbrev pub set_natives : Book → AtRest → List Native
set_natives book s = natives_of book s.events

-- the natives with those of one more event
abbrev pub natives_with : Book → EventRef → AtRest → List Native
natives_with book e s = natives_of book (s.events ++ e ∷ [])

-- a component is fixed, and it is another one
abbrev pub is_other : Option ℕ → Option ℕ → Bool
is_other None comp = false
is_other (Some fixed) None = false
is_other (Some fixed) (Some comp) = not (fixed == comp)

-- PAPI_add_event(3): the event is of another component, or is in the set
abbrev pub cannot_take : Book → EventRef → AtRest → Bool
cannot_take book e s = is_other s.component (component_of_event book e) || has_event e s

-- events or natives would be more than 32
abbrev pub is_full : Book → EventRef → AtRest → Bool
is_full book e s = nat_le MOST_SET_EVENTS (length s.events) || nat_lt MOST_SET_NATIVES (length (natives_with book e s))

-- the conflict of the set's natives with those of one more event, if there is one
abbrev pub clash_with : Book → EventRef → AtRest → Option Clash
clash_with book e s = clash_of s.slice (length (set_natives book s)) (natives_with book e s)

-- some event has a threshold
abbrev pub is_armed : AtRest → Bool
is_armed s = list_any (λ t. nat_lt 0 t) s.thresholds

-- the value is the count of one native
abbrev pub is_plain : Rule → Bool
is_plain rule.Plain = true
is_plain rule.Sum = false
is_plain rule.Sub = false
is_plain (rule.Postfix f) = false

-- PAPI_overflow(3): the event is not in the set, or is derived
abbrev pub cannot_arm : Book → EventRef → AtRest → Bool
cannot_arm book e s = not (has_event e s) || not (is_plain (rule_of_event book e))

-- the least of some widths, and 0 of none
abbrev pub least_width : List ℕ → ℕ
least_width [] = 0
least_width (w ∷ []) = w
least_width (w ∷ v ∷ ws) = min w (least_width (v ∷ ws))

-- the threshold is neither 0 nor from 256 to the last value of each register
abbrev pub is_bad_threshold : Widths → ℕ → AtRest → Bool
is_bad_threshold shape t s = not (t == 0) && not (nat_le LEAST_THRESHOLD t && nat_lt t (2 ^ least_width (widths_at shape s.component)))

-- the native is the event's first
abbrev pub leads : Book → Native → EventRef → Bool
leads book n e = option_map_or (same_native n) (lead book e) false

-- an event other than this one has a threshold on the native
abbrev pub armed_elsewhere : Book → EventRef → Native → List EventRef → List ℕ → Bool
armed_elsewhere book e n [] ts = false
armed_elsewhere book e n (x ∷ xs) [] = false
armed_elsewhere book e n (x ∷ xs) (t ∷ ts) = (not (same_event e x) && nat_lt 0 t && leads book n x) || armed_elsewhere book e n xs ts

-- a threshold above 0 on the event, if another event has one on the same native
abbrev pub shares_native : Book → EventRef → ℕ → AtRest → Bool
shares_native book e t s = not (t == 0) && option_map_or (λ n. armed_elsewhere book e n s.events s.thresholds) (lead book e) false

-- PAPI_set_domain(3): the domain is not USER, KERNEL or both
abbrev pub is_bad_domain : ℕ → Bool
is_bad_domain bits = (bits == 0) || nat_lt 3 bits

-- the slice is not from 1 to 1,000,000 ticks
abbrev pub is_bad_slice : ℕ → Bool
is_bad_slice slice = (slice == 0) || nat_lt LONGEST_SLICE slice

-- PAPI_add_event(3): the event comes last, without a threshold, and its component is fixed
abbrev pub with_event : Book → EventRef → AtRest → AtRest
with_event book e s = record s { events = s.events ++ e ∷ []; thresholds = s.thresholds ++ 0 ∷ []; component = component_of_event book e }

-- PAPI_remove_event(3): the event goes with its threshold; the component stays
abbrev pub without_event : EventRef → AtRest → AtRest
without_event e s = record s { events = remove s.events (place_of e s); thresholds = remove s.thresholds (place_of e s) }

-- PAPI_cleanup_eventset(3): the domain stays
abbrev pub emptied : AtRest → AtRest
emptied s = record new_set { domain = s.domain }

-- PAPI_overflow(3): the event has this threshold, or none if it is 0
abbrev pub with_threshold : EventRef → ℕ → AtRest → AtRest
with_threshold e t s = record s { thresholds = slice_set s.thresholds (place_of e s) t }
