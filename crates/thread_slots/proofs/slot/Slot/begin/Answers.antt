use Rattle.thread_slots.proofs.Words.{refl, sym, ◌∙◌, slice_get_read}
use Rattle.thread_slots.proofs.slot.Slot.begin.Goals as goal

pub begin_with-requires : goal.begin_with-requires
begin_with-requires c =
    let comp = c.in-Some.comp in
    let unit = c.index-units-comp.result in
    let on = sym c.component.ensures ∙ c.in-Some.is in
    let at = slice_get_read c.args.units.now _ comp unit refl (c.requires.has_unit comp on) c.index-units-comp.is in
    rw (← c.index-units-comp.is) (c.requires.startable comp unit on at)
