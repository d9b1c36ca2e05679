use Rattle.thread_slots.proofs.Words.{◌∷◌, [], refl, arith, length-append, position_or_len, same_native, Native}
use Rattle.thread_slots.proofs.Searching.{map_more}
use Rattle.thread_slots.proofs.event_places.EventPlaces.push_all.Goals as goal

pub loop-i-preserved : goal.loop-i-preserved
loop-i-preserved c =
    let natives = c.args.natives.now in
    let place = position_or_len (same_native c.at.result) natives in
    rw c.push_native.ensures record {
      so_far = omega (arith, length-append c.loop-i.self (place ∷ []), c.loop-i.invariant.so_far);
      done = map_more (λ (n : Native). position_or_len (same_native n) natives) c.args.own.now c.loop-i.self _ c.loop-i.i c.at.result place c.at.ensures.item refl c.loop-i.invariant.done;
    }
