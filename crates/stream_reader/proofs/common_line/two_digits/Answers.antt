use Rattle.std.proofs.Common.{◌<◌, get_or, arith}
use Rattle.stream_reader.proofs.Components.{component-2}
use Rattle.stream_reader.proofs.common_line.two_digits.Goals as goal

pub returns : goal.returns
returns c =
    let x : get_or c.args.text.now 1 0 < 256 = omega (arith, (c.type_inv.text 1).fits) in
    component-2 c.args.text.now c.from.result (omega arith) c.if-text-ne49.false (omega arith) (omega arith) (omega (arith, c.from.ensures))
