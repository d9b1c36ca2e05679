use Rattle.thread_slots.proofs.Words.{refl, sym, ◌∙◌, arith, slice_get_read}
use Rattle.thread_slots.proofs.Telling.{shown_on}
use Rattle.thread_slots.proofs.slot.Slot.numbers.Goals as goal

pub bounds-units-comp : goal.bounds-units-comp
bounds-units-comp c = (c.requires.has_unit c.in-OnUnit.pins c.in-OnUnit.armed c.in-OnUnit.places c.in-OnUnit.is).has_unit c.in-Some.comp (sym c.component.ensures ∙ c.in-Some.is)

pub numbers_on_unit-requires : goal.numbers_on_unit-requires
numbers_on_unit-requires c =
    let comp = c.in-Some.comp in
    let unit = c.index-units-comp.result in
    let h = c.requires.has_unit c.in-OnUnit.pins c.in-OnUnit.armed c.in-OnUnit.places c.in-OnUnit.is in
    let on = sym c.component.ensures ∙ c.in-Some.is in
    h.pinned comp unit on (slice_get_read c.args.units.now _ comp unit refl (h.has_unit comp on) c.index-units-comp.is)

pub returns-in-Some : goal.returns-in-Some
returns-in-Some c =
    let comp = c.in-Some.comp in
    let unit = c.index-units-comp.result in
    let h = c.requires.has_unit c.in-OnUnit.pins c.in-OnUnit.armed c.in-OnUnit.places c.in-OnUnit.is in
    let on = sym c.component.ensures ∙ c.in-Some.is in
    let at = slice_get_read c.args.units.now _ comp unit refl (h.has_unit comp on) c.index-units-comp.is in
    c.numbers_on_unit.ensures ∙ shown_on c.args.units.now c.args.self.now c.args.time comp unit c.in-OnUnit.pins c.in-OnUnit.armed c.in-OnUnit.places c.in-OnUnit.is on at

pub overflow_sub-time : goal.overflow_sub-time
overflow_sub-time c = (c.requires.in_turns c.in-InTurns.rotation c.in-InTurns.begun c.in-InTurns.kept c.in-InTurns.is).began

pub numbers_in_turns-requires : goal.numbers_in_turns-requires
numbers_in_turns-requires c =
    let h = c.requires.in_turns c.in-InTurns.rotation c.in-InTurns.begun c.in-InTurns.kept c.in-InTurns.is in
    record { same_length = h.same_length; total = omega arith; counts = h.counts }
