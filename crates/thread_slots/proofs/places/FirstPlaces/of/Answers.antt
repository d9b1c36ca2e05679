use Rattle.thread_slots.proofs.Words.{ℕ, get_or, ap, arith}
use Rattle.thread_slots.proofs.Keyed.{first_all, first_more}
use Rattle.thread_slots.proofs.places.FirstPlaces.of.Goals as goal

pub loop-i-preserved : goal.loop-i-preserved
loop-i-preserved c =
    let key = c.key_of-key.ensures in
    let was = ap (λ (k : ℕ). get_or c.loop-i.first k 0) key.value in
    let least = c.min.ensures in
    rw key.value (first_more c.loop-i.first c.args.natives.now c.loop-i.i c.at.result c.min.result c.at.ensures.item (omega (arith, key.below)) (omega arith) (omega arith) c.loop-i.invariant)

pub returns : goal.returns
returns c = first_all c.loop-i.first c.args.natives.now c.loop-i.i (omega arith) c.loop-i.invariant
