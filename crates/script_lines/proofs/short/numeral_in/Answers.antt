use Rattle.script_lines.proofs.ShortNumbers.{digits-more, value-more}
use Rattle.script_lines.proofs.short.numeral_in.Goals as goal

pub loop-i-preserved : goal.loop-i-preserved
loop-i-preserved c =
    let s = c.args.bytes.now in
    let i = c.loop-i.i in
    record {
      digits = digits-more s i c.loop-i-test.true c.if-byte-lt48.false c.if-byte-gt57.false c.loop-i.invariant.digits;
      same = value-more s i c.loop-i.value c.from.result c.loop-i-test.true c.if-byte-lt48.false c.if-byte-gt57.false c.from.ensures c.loop-i.invariant.same;
    }
