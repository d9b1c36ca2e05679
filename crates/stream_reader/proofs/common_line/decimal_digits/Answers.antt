use Rattle.std.proofs.Common.{◌<◌, get_or, arith}
use Rattle.stream_reader.proofs.Stamps.{grows}
use Rattle.stream_reader.proofs.common_line.decimal_digits.Goals as goal

pub loop-size-preserved : goal.loop-size-preserved
loop-size-preserved c =
    let t = c.args.text.now in
    let v = c.loop-size.value in
    let n = c.loop-size.size in
    let x : get_or t n 0 < 256 = omega (arith, (c.type_inv.text n).fits) in
    let g = grows t n v (omega arith) (omega arith) (omega arith) c.loop-size.invariant.each c.loop-size.invariant.value c.loop-size.invariant.small in
    record {
      each = g.each;
      value = omega (arith, c.from.ensures, g.value);
      small = omega (arith, c.from.ensures, g.small);
      few = omega arith;
    }
