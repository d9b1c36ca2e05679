use Rattle.thread_slots.proofs.Words.{◌∷◌, [], arith, length-append, count_on, Pin}
use Rattle.thread_slots.proofs.Searching.{map_more}
use Rattle.thread_slots.proofs.measuring.numbers_on_unit.Goals as goal

pub loop-i-preserved : goal.loop-i-preserved
loop-i-preserved c = rw c.push.ensures.pushed record {
  so_far = omega (arith, length-append c.loop-i.numbers (c.count.result ∷ []), c.loop-i.invariant.so_far);
  done = map_more (λ (p : Pin). count_on c.args.unit.now p.counter) c.args.pins.now c.loop-i.numbers _ c.loop-i.i c.at.result c.count.result c.at.ensures.item c.count.ensures c.loop-i.invariant.done;
}
