-- What calls change of a set that does not run: PAPI_cleanup_eventset(3), PAPI_remove_event(3),
-- PAPI_assign_eventset_component(3), PAPI_set_domain(3), PAPI_set_multiplex(3), PAPI_overflow(3). That all but one zero its
-- counts is a choice of this project.
use Rattle.std.specs.Prelude.{ℕ, Bool, false, not, nat_le, if◌then◌else◌, length, List, Option, Some, None, Ok, Err, ⊤}
use Rattle.papi_base.specs.declared.code.Code.{Code}
use Rattle.papi_base.specs.declared.code.Code.TheVariants.{Einval, Eisrun, Enocmp, Enoevst}
use Rattle.postfix_rules.specs.Presets.{Book}
use Rattle.event_sets.specs.AtRest.{AtRest, Widths, emptied, has_event, is_bad_domain, set_natives, with_threshold, without_event}
use Rattle.event_sets.specs.Changing.{assign_refusal, multiplex_refusal, threshold_refusal}
use Rattle.event_sets.specs.Sets.{set_view}
use Rattle.session_model.specs.CallTypes.{Call}
use Rattle.call_type.specs.declared.call.Call.TheVariants as call
use Rattle.postfix_rules.specs.Fitting.{IsNamed}
use Rattle.session_model.specs.Faces.{Face, is_absent, runs}
use Rattle.thread_slots.specs.declared.changing.Change.{Change}
use Rattle.thread_slots.specs.declared.changing.Change.TheVariants as change
use Rattle.thread_slots.specs.declared.slot.Slot.{Slot}
use Rattle.thread_slots.specs.Changed.{at_zero, renewed}

-- the call that makes the change
abbrev pub changing_call : ℕ → Change → Call
changing_call k change.Cleanup = call.Cleanup k
changing_call k (change.Remove e) = call.Remove k e
changing_call k (change.AssignComponent comp) = call.AssignComponent k comp
changing_call k (change.SetDomain bits) = call.SetDomain k bits
changing_call k (change.SetMultiplex slice) = call.SetMultiplex k slice
changing_call k (change.Overflow e t) = call.Overflow k e t

-- its event is named
abbrev pub IsFor : Book → Widths → Change → Type 0
IsFor book shape (change.Remove e) = IsNamed book shape e
IsFor book shape (change.Overflow e t) = IsNamed book shape e
IsFor book shape made = ⊤

-- it wants a component that the shape has not
abbrev pub lacks_component : Widths → Change → Bool
lacks_component shape (change.AssignComponent comp) = nat_le (length shape) comp
lacks_component shape made = false

-- before the set at rest is asked
abbrev pub code_before : Widths → List (Option Face) → ℕ → Change → Option Code
code_before shape faces k made =
    if is_absent faces k then Some Enoevst
    else if lacks_component shape made then Some Enocmp
    else if runs faces k then Some Eisrun
    else None

-- what the set at rest says
abbrev pub change_refusal : Book → Widths → Change → AtRest → Option Code
change_refusal book shape change.Cleanup s = None
change_refusal book shape (change.Remove (Ok e)) s = if not (has_event e s) then Some Einval else None
change_refusal book shape (change.Remove (Err code)) s = Some code
change_refusal book shape (change.AssignComponent comp) s = assign_refusal shape comp s
change_refusal book shape (change.SetDomain bits) s = if is_bad_domain bits then Some Einval else None
change_refusal book shape (change.SetMultiplex slice) s = multiplex_refusal slice s
change_refusal book shape (change.Overflow (Ok e) t) s = threshold_refusal book shape e t s
change_refusal book shape (change.Overflow (Err code) t) s = Some code

-- another set at rest, that has counted nothing
abbrev pub recounted : Book → Widths → AtRest → Slot → Slot
recounted book shape s slot = record slot { set = set_view book shape s; counting = at_zero (length (set_natives book s)) }

-- what is kept of the set after it
abbrev pub slot_after : Book → Widths → Change → Slot → Slot
slot_after book shape change.Cleanup slot = renewed book shape (emptied slot.set.rest)
slot_after book shape (change.Remove (Ok e)) slot = renewed book shape (without_event e slot.set.rest)
slot_after book shape (change.Remove (Err code)) slot = slot
slot_after book shape (change.AssignComponent comp) slot = record slot { set = set_view book shape (record slot.set.rest { component = Some comp }) }
slot_after book shape (change.SetDomain bits) slot = recounted book shape (record slot.set.rest { domain = record { 0 = bits } }) slot
slot_after book shape (change.SetMultiplex slice) slot = recounted book shape (record slot.set.rest { slice = Some slice }) slot
slot_after book shape (change.Overflow (Ok e) t) slot = recounted book shape (with_threshold e t slot.set.rest) slot
slot_after book shape (change.Overflow (Err code) t) slot = slot
