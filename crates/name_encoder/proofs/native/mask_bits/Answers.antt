use Rattle.name_encoder.proofs.Words.{◌-◌, length, drop, get_or, false, arith, length-drop}
use Rattle.name_encoder.proofs.Bits.{bits-more, bits-none, bits-small, flag-byte}
use Rattle.name_encoder.proofs.native.mask_bits.Goals as goal

pub loop-i-init : goal.loop-i-init
loop-i-init c = record { inside = omega arith; bits = bits-none c.args.flags.now (length c.args.flags.now) (omega arith) }

pub overflow_mul-bits : goal.overflow_mul-bits
overflow_mul-bits c =
    let flags = c.args.flags.now in
    let j = c.loop-i.i - 1 in
    let more = bits-more flags c.loop-i.i (c.loop-i.i - 1) false (omega arith) (omega arith) in
    let small = bits-small (drop (c.loop-i.i - 1) flags) 16 (omega (arith, length-drop (c.loop-i.i - 1) flags)) in
    omega (arith, more, small, c.loop-i.invariant.bits)

pub overflow_add-bits : goal.overflow_add-bits
overflow_add-bits c =
    let flags = c.args.flags.now in
    let more = bits-more flags c.loop-i.i (c.loop-i.i - 1) false (omega arith) (omega arith) in
    let small = bits-small (drop (c.loop-i.i - 1) flags) 16 (omega (arith, length-drop (c.loop-i.i - 1) flags)) in
    omega (arith, more, small, c.loop-i.invariant.bits, flag-byte (get_or flags (c.loop-i.i - 1) false))

pub loop-i-preserved : goal.loop-i-preserved
loop-i-preserved c =
    let flags = c.args.flags.now in
    let more = bits-more flags c.loop-i.i (c.loop-i.i - 1) false (omega arith) (omega arith) in
    record { inside = omega arith; bits = omega (arith, more, c.loop-i.invariant.bits, flag-byte (get_or flags (c.loop-i.i - 1) false)) }
