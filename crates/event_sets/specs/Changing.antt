-- When a set that does not run is not changed: the codes are those of the manual pages, and when each comes, and in which
-- order, is a choice of this project.
use Rattle.std.specs.Prelude.{ℕ, nat_le, length, if◌then◌else◌, Option, Some, None, is_some}
use Rattle.papi_base.specs.declared.native.EventRef.{EventRef}
use Rattle.papi_base.specs.declared.code.Code.{Code}
use Rattle.papi_base.specs.declared.code.Code.TheVariants.{Einval, Ecombo, Enocmp}
use Rattle.postfix_rules.specs.Presets.{Book}
use Rattle.event_sets.specs.AtRest.{AtRest, Widths, cannot_arm, is_armed, is_bad_slice, is_bad_threshold, is_other, shares_native}

-- PAPI_set_multiplex(3): the slice is out of range, or an event has a threshold
abbrev pub multiplex_refusal : ℕ → AtRest → Option Code
multiplex_refusal slice s =
    if is_bad_slice slice then Some Einval
    else if is_armed s then Some Ecombo
    else None

-- PAPI_assign_eventset_component(3): there is no such component, or the set has another one
abbrev pub assign_refusal : Widths → ℕ → AtRest → Option Code
assign_refusal shape comp s =
    if nat_le (length shape) comp then Some Enocmp
    else if is_other s.component (Some comp) then Some Einval
    else None

-- PAPI_overflow(3): the event can have no threshold, the threshold is out of range, another event has one on the same
-- native, or the natives take turns
abbrev pub threshold_refusal : Book → Widths → EventRef → ℕ → AtRest → Option Code
threshold_refusal book shape e t s =
    if cannot_arm book e s then Some Einval
    else if is_bad_threshold shape t s then Some Einval
    else if shares_native book e t s then Some Einval
    else if is_some s.slice then Some Ecombo
    else None
