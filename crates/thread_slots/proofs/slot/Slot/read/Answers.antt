use Rattle.thread_slots.proofs.Words.{◌≡◌, List, ℕ, Some, All, ap, arith, map, refl, slice_get, slice_get_read, subst, sym, ◌∙◌, event_value}
use Rattle.thread_slots.proofs.Words.{number_in, pin_numbers, ◌<◌, ◌^◌, numbers_shown, NUMBER_BITS}
use Rattle.thread_slots.proofs.Telling.{shown_on}
use Rattle.thread_slots.proofs.slot.Slot.read.Goals as goal
use Rattle.thread_slots.proofs.slot.Slot.read.Goals.{After-index-units-comp}

pub bounds-units-comp : goal.bounds-units-comp
bounds-units-comp c = (c.requires.measurable.has_unit c.in-OnUnit.pins c.in-OnUnit.armed c.in-OnUnit.places c.in-OnUnit.is).has_unit c.in-Some.comp (sym c.component.ensures ∙ c.in-Some.is)

-- the unit of its component
at : (c : After-index-units-comp) → slice_get c.args.units.now c.in-Some.comp ≡ Some c.index-units-comp.result
at c =
    let h = c.requires.measurable.has_unit c.in-OnUnit.pins c.in-OnUnit.armed c.in-OnUnit.places c.in-OnUnit.is in
    slice_get_read c.args.units.now _ c.in-Some.comp c.index-units-comp.result refl (h.has_unit c.in-Some.comp (sym c.component.ensures ∙ c.in-Some.is)) c.index-units-comp.is

-- its counters have what is shown
shown : (c : After-index-units-comp) → pin_numbers c.index-units-comp.result c.in-OnUnit.pins ≡ numbers_shown c.args.units.now c.args.time c.args.self.now
shown c =
    shown_on c.args.units.now c.args.self.now c.args.time c.in-Some.comp c.index-units-comp.result c.in-OnUnit.pins c.in-OnUnit.armed c.in-OnUnit.places
    c.in-OnUnit.is (sym c.component.ensures ∙ c.in-Some.is) (at c)

pub values_of-requires-clause-readable : goal.values_of-requires-clause-readable
values_of-requires-clause-readable c =
    let w = goal.at.values_of-requires-clause-readable c in
    (c.requires.measurable.has_unit c.in-OnUnit.pins c.in-OnUnit.armed c.in-OnUnit.places c.in-OnUnit.is).pinned c.in-Some.comp c.index-units-comp.result
    (sym c.component.ensures ∙ c.in-Some.is) (at w.After-index-units-comp)

pub values_of-requires-clause-small : goal.values_of-requires-clause-small
values_of-requires-clause-small c =
    let w = goal.at.values_of-requires-clause-small c in
    subst (λ (ns : List ℕ). All (λ t. t < 2 ^ NUMBER_BITS) ns) (sym (shown w.After-index-units-comp)) c.requires.small

pub returns-in-Some : goal.returns-in-Some
returns-in-Some c =
    let w = goal.at.returns-in-Some c in
    let slot = c.args.self.now in
    c.values_of.ensures ∙ ap (λ (ns : List ℕ). map (event_value c.args.book.now (number_in slot.set.natives ns)) slot.set.rest.events) (shown w.After-index-units-comp)
