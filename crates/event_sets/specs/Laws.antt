-- The changes of a set keep its agreement with the book, if the tests of their refusals fail; and what the natives of
-- events are.
use Rattle.std.specs.Prelude.{ℕ, ◌≡◌, true, false, not, List, [], ◌∷◌, Some, slice_get}
use Rattle.std.specs.List.{filter, flat_map}
use Rattle.papi_base.specs.declared.native.Native.{Native}
use Rattle.papi_base.specs.declared.native.EventRef.{EventRef}
use Rattle.postfix_rules.specs.Presets.{Book, lead, natives_of, natives_of_event, rule_of_event}
use Rattle.postfix_rules.specs.Sameness.{same_native}
use Rattle.event_sets.specs.AtRest.{AtRest, cannot_take, emptied, has_event, is_other, is_plain, set_natives, shares_native}
use Rattle.event_sets.specs.AtRest.{with_event, with_threshold, without_event}
use Rattle.event_sets.specs.Agreement.{Agrees}
use Rattle.postfix_rules.specs.Fitting.{IsHeld}

-- a set agrees with the book after all its events are removed: PAPI_cleanup_eventset(3)
abbrev pub EmptiedAgrees : Type 0
EmptiedAgrees = (book : Book) (s : AtRest) → Agrees book (emptied s)

-- a set agrees after one more event that it can take is added: PAPI_add_event(3)
abbrev pub AddedAgrees : Type 0
AddedAgrees = (book : Book) (e : EventRef) (s : AtRest) → IsHeld book e → cannot_take book e s ≡ false
    → Agrees book s → Agrees book (with_event book e s)

-- a set agrees after a component is assigned, if it has no other one: PAPI_assign_eventset_component(3)
abbrev pub AssignedAgrees : Type 0
AssignedAgrees = (book : Book) (comp : ℕ) (s : AtRest)
    → is_other s.component (Some comp) ≡ false
    → Agrees book s → Agrees book (record s { component = Some comp })

-- a set agrees after an event is removed: PAPI_remove_event(3)
abbrev pub RemovedAgrees : Type 0
RemovedAgrees = (book : Book) (e : EventRef) (s : AtRest) → Agrees book s → Agrees book (without_event e s)

-- a set agrees after a threshold is set on a plain event of it: PAPI_overflow(3)
abbrev pub ArmedAgrees : Type 0
ArmedAgrees = (book : Book) (e : EventRef) (t : ℕ) (s : AtRest)
    → has_event e s ≡ true → is_plain (rule_of_event book e) ≡ true → shares_native book e t s ≡ false
    → Agrees book s → Agrees book (with_threshold e t s)

-- an event that the book holds has a first native
abbrev pub HeldHaveNatives : Type 0
HeldHaveNatives = (book : Book) (e : EventRef) → IsHeld book e → (n : Native) × (lead book e ≡ Some n)

-- the natives of a set that agrees are of its component
abbrev pub NativesAreOwned : Type 0
NativesAreOwned = (book : Book) (s : AtRest) (i : ℕ) (n : Native) → Agrees book s → slice_get (set_natives book s) i ≡ Some n → s.component ≡ Some n.comp

-- the natives in order, each at its first mention
abbrev pub firsts : List Native → List Native
firsts [] = []
firsts (n ∷ ns) = n ∷ filter (λ m. not (same_native m n)) (firsts ns)

-- the natives of events are those of each event, one after another, without later repeats
abbrev pub NativesAreFirsts : Type 0
NativesAreFirsts = (book : Book) (events : List EventRef) → natives_of book events ≡ firsts (flat_map (natives_of_event book) events)
