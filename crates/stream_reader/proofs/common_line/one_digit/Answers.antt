use Rattle.std.proofs.Common.{◌<◌, get_or, arith}
use Rattle.stream_reader.proofs.Components.{component-1}
use Rattle.stream_reader.proofs.common_line.one_digit.Goals as goal

pub returns : goal.returns
returns c =
    let x : get_or c.args.text.now 0 0 < 256 = omega (arith, (c.type_inv.text 0).fits) in
    component-1 c.args.text.now c.from.result (omega arith) (omega arith) (omega arith) (omega (arith, c.from.ensures))
