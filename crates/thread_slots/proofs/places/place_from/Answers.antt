use Rattle.thread_slots.proofs.Words.{◌≡◌, false, sym, ◌∙◌, arith, same_native, found_later}
use Rattle.thread_slots.proofs.places.place_from.Goals as goal

pub loop-i-preserved : goal.loop-i-preserved
loop-i-preserved c =
    let other : same_native c.args.n.now c.at.result ≡ false = sym c.is_same.ensures ∙ c.if-is_same.false in
    let next = found_later (same_native c.args.n.now) c.args.natives.now c.loop-i.i c.at.result c.at.ensures.item other in
    omega (arith, next, c.loop-i.invariant)
