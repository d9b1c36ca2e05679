use Rattle.name_encoder.proofs.Words.{◌-◌, length, sym, arith, mask_text}
use Rattle.name_encoder.proofs.Bits.{values-more, values-none}
use Rattle.name_encoder.proofs.native.umask_of.Goals as goal

pub loop-i-init : goal.loop-i-init
loop-i-init c = record { inside = omega arith; values = values-none mask_text c.args.flags.now c.args.masks.now (length c.args.masks.now) (omega arith) c.requires }

pub loop-i-preserved : goal.loop-i-preserved
loop-i-preserved c =
    let i = c.loop-i.i in
    let more = values-more mask_text c.args.flags.now c.args.masks.now i (i - 1) c.index-masks-i.result (omega arith) (omega arith) c.requires in
    record { inside = omega arith; values = rw (c.bits_if-umask.ensures, c.loop-i.invariant.values) (sym more) }
