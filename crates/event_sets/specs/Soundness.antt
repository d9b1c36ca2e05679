-- What each set keeps is kept by a new set, and by each change that is not refused.
use Rattle.std.specs.Prelude.{ℕ, ◌≡◌, ◌≤◌, false, All, None, Some, length}
use Rattle.papi_base.specs.declared.native.EventRef.{EventRef}
use Rattle.papi_base.specs.declared.limits.TheConstants.{MOST_COUNTERS}
use Rattle.postfix_rules.specs.Presets.{Book, natives_of_event}
use Rattle.event_sets.specs.AtRest.{AtRest, Widths, emptied, is_bad_domain, new_set, with_event, with_threshold, without_event}
use Rattle.event_sets.specs.Adding.{add_refusal}
use Rattle.event_sets.specs.Changing.{assign_refusal, multiplex_refusal, threshold_refusal}
use Rattle.postfix_rules.specs.Fitting.{BookFits, EventFits, Fits, IsHeld}
use Rattle.event_sets.specs.Sets.{IsSound, set_view}

-- a new set is sound: PAPI_create_eventset(3)
abbrev pub NewIsSound : Type 0
NewIsSound = (book : Book) (shape : Widths) → IsSound (set_view book shape new_set)

-- a sound set stays sound if an event is added: PAPI_add_event(3)
abbrev pub AddedIsSound : Type 0
AddedIsSound = (book : Book) (shape : Widths) (e : EventRef) (s : AtRest)
    → IsHeld book e → All (Fits shape) (natives_of_event book e) → All (λ widths. length widths ≤ MOST_COUNTERS) shape
    → add_refusal book e s ≡ None → IsSound (set_view book shape s) → IsSound (set_view book shape (with_event book e s))

-- a sound set stays sound if all its events are removed: PAPI_cleanup_eventset(3)
abbrev pub EmptiedIsSound : Type 0
EmptiedIsSound = (book : Book) (shape : Widths) (s : AtRest) → IsSound (set_view book shape s) → IsSound (set_view book shape (emptied s))

-- a sound set stays sound if an event is removed: PAPI_remove_event(3)
abbrev pub RemovedIsSound : Type 0
RemovedIsSound = (book : Book) (shape : Widths) (e : EventRef) (s : AtRest)
    → IsSound (set_view book shape s) → IsSound (set_view book shape (without_event e s))

-- a sound set stays sound if a component is assigned: PAPI_assign_eventset_component(3)
abbrev pub AssignedIsSound : Type 0
AssignedIsSound = (book : Book) (shape : Widths) (comp : ℕ) (s : AtRest)
    → All (λ widths. length widths ≤ MOST_COUNTERS) shape → assign_refusal shape comp s ≡ None
    → IsSound (set_view book shape s) → IsSound (set_view book shape (record s { component = Some comp }))

-- a sound set stays sound if its domain is set: PAPI_set_domain(3)
abbrev pub WithDomainIsSound : Type 0
WithDomainIsSound = (book : Book) (shape : Widths) (bits : ℕ) (s : AtRest)
    → is_bad_domain bits ≡ false
    → IsSound (set_view book shape s) → IsSound (set_view book shape (record s { domain = record { 0 = bits } }))

-- a sound set stays sound if it is multiplexed: PAPI_set_multiplex(3)
abbrev pub WithSliceIsSound : Type 0
WithSliceIsSound = (book : Book) (shape : Widths) (slice : ℕ) (s : AtRest)
    → multiplex_refusal slice s ≡ None
    → IsSound (set_view book shape s) → IsSound (set_view book shape (record s { slice = Some slice }))

-- a sound set stays sound if a threshold is set: PAPI_overflow(3)
abbrev pub ArmedIsSound : Type 0
ArmedIsSound = (book : Book) (shape : Widths) (e : EventRef) (t : ℕ) (s : AtRest)
    → threshold_refusal book shape e t s ≡ None
    → IsSound (set_view book shape s) → IsSound (set_view book shape (with_threshold e t s))

-- the natives of an event fit if the event and the book do
abbrev pub HeldFit : Type 0
HeldFit = (book : Book) (shape : Widths) (e : EventRef) → BookFits shape book → IsHeld book e → EventFits shape e → All (Fits shape) (natives_of_event book e)
