use Rattle.thread_slots.proofs.Words.{List, sym, subst, All, Native, ◌<◌}
use Rattle.thread_slots.proofs.Beginning.{slice_some}
use Rattle.thread_slots.proofs.slot.Slot.begin_in_turns.Goals as goal

pub make-rotation-requires-clause-allowed : goal.make-rotation-requires-clause-allowed
make-rotation-requires-clause-allowed c =
    let shared = c.natives-natives.ensures.sound.shared c.args.slice c.requires.slice in
    subst (λ (ns : List Native). All (λ (n : Native). 0 < n.allowed) ns) (sym c.natives-natives.ensures.natives) shared.some_counter

pub make-rotation-requires-clause-slice : goal.make-rotation-requires-clause-slice
make-rotation-requires-clause-slice c =
    let shared = c.natives-natives.ensures.sound.shared c.args.slice c.requires.slice in
    slice_some c.args.slice shared.good_slice
