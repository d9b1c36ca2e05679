use Rattle.thread_slots.proofs.slot.Slot.zero.Goals as goal

pub restart_unit-requires : goal.restart_unit-requires
restart_unit-requires c comp is = (c.requires c.in-OnUnit.pins c.in-OnUnit.armed c.in-OnUnit.places c.in-OnUnit.is).on_unit.has_unit comp is
