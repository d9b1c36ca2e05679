use Rattle.thread_slots.proofs.Words.{◌≡◌, List, ℕ, Some, All, ap, arith, map, refl, slice_get, slice_get_read, subst, sym, ◌∙◌, event_value}
use Rattle.thread_slots.proofs.Words.{number_in, pin_numbers, ◌<◌, ◌^◌, numbers_shown, AreGiven, NUMBER_BITS}
use Rattle.thread_slots.proofs.Telling.{shown_on}
use Rattle.thread_slots.proofs.slot.Slot.read_into.Goals as goal
use Rattle.thread_slots.proofs.slot.Slot.read_into.Goals.{After-index-units-comp}

pub bounds-units-comp : goal.bounds-units-comp
bounds-units-comp c = (c.requires.measurable.has_unit c.in-OnUnit.pins c.in-OnUnit.armed c.in-OnUnit.places c.in-OnUnit.is).has_unit c.in-Some.comp (sym c.component.ensures ∙ c.in-Some.is)

-- the unit of its component
at : (c : After-index-units-comp) → slice_get c.args.units.now c.in-Some.comp ≡ Some c.index-units-comp.result
at c =
    let h = c.requires.measurable.has_unit c.in-OnUnit.pins c.in-OnUnit.armed c.in-OnUnit.places c.in-OnUnit.is in
    slice_get_read c.args.units.now _ c.in-Some.comp c.index-units-comp.result refl (h.has_unit c.in-Some.comp (sym c.component.ensures ∙ c.in-Some.is)) c.index-units-comp.is

-- its counters have what is shown
shown : (c : After-index-units-comp) → pin_numbers c.index-units-comp.result c.in-OnUnit.pins ≡ numbers_shown c.args.units.now c.args.time c.args.self.now
shown c =
    shown_on c.args.units.now c.args.self.now c.args.time c.in-Some.comp c.index-units-comp.result c.in-OnUnit.pins c.in-OnUnit.armed c.in-OnUnit.places
    c.in-OnUnit.is (sym c.component.ensures ∙ c.in-Some.is) (at c)

pub write_values-requires-clause-readable : goal.write_values-requires-clause-readable
write_values-requires-clause-readable c =
    let w = goal.at.write_values-requires-clause-readable c in
    (c.requires.measurable.has_unit c.in-OnUnit.pins c.in-OnUnit.armed c.in-OnUnit.places c.in-OnUnit.is).pinned c.in-Some.comp c.index-units-comp.result
    (sym c.component.ensures ∙ c.in-Some.is) (at w.After-index-units-comp)

pub write_values-requires-clause-small : goal.write_values-requires-clause-small
write_values-requires-clause-small c =
    let w = goal.at.write_values-requires-clause-small c in
    subst (λ (ns : List ℕ). All (λ t. t < 2 ^ NUMBER_BITS) ns) (sym (shown w.After-index-units-comp)) c.requires.small

pub returns-in-Some-clause-given : goal.returns-in-Some-clause-given
returns-in-Some-clause-given c =
    let w = goal.at.returns-in-Some-clause-given c in
    let slot = c.args.self.now in
    subst (λ (ns : List ℕ). AreGiven (map (event_value c.args.book.now (number_in slot.set.natives ns)) slot.set.rest.events) c.args.out.now c.write_values.new.out)
    (shown w.After-index-units-comp) c.write_values.ensures
