use Rattle.name_encoder.proofs.Words.{◌-◌, length, drop, map, get_or, arith, length-drop, length-map, counter_text}
use Rattle.name_encoder.proofs.Bits.{flag-byte, is_programmable, programmable-more, programmable-none, programmable-small}
use Rattle.name_encoder.proofs.native.programmable.Goals as goal

pub loop-i-init : goal.loop-i-init
loop-i-init c = record { inside = omega arith; bits = programmable-none counter_text c.args.counters.now (length c.args.counters.now) (omega arith) }

pub overflow_mul-bits : goal.overflow_mul-bits
overflow_mul-bits c =
    let xs = c.args.counters.now in
    let small = programmable-small (map counter_text (drop c.loop-i.i xs)) 31 (omega (arith, length-map (drop c.loop-i.i xs) counter_text, length-drop c.loop-i.i xs)) in
    omega (arith, small, c.loop-i.invariant.bits)

pub overflow_add-bits : goal.overflow_add-bits
overflow_add-bits c =
    let xs = c.args.counters.now in
    let x = c.index-counters-i.result in
    let more = programmable-more counter_text xs c.loop-i.i (c.loop-i.i - 1) x (omega arith) (omega arith) in
    let small = programmable-small (map counter_text (drop (c.loop-i.i - 1) xs)) 32 (omega (arith, length-map (drop (c.loop-i.i - 1) xs) counter_text, length-drop (c.loop-i.i - 1) xs)) in
    omega (arith, more, small, c.loop-i.invariant.bits, flag-byte (is_programmable (counter_text (get_or xs (c.loop-i.i - 1) x))))

pub loop-i-preserved : goal.loop-i-preserved
loop-i-preserved c =
    let xs = c.args.counters.now in
    let x = c.index-counters-i.result in
    let more = programmable-more counter_text xs c.loop-i.i (c.loop-i.i - 1) x (omega arith) (omega arith) in
    record { inside = omega arith; bits = omega (arith, more, c.loop-i.invariant.bits, flag-byte (is_programmable (counter_text (get_or xs (c.loop-i.i - 1) x)))) }
