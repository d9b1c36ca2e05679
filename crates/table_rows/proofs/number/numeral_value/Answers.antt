use Rattle.std.proofs.Common.{◌+◌, ◌*◌, ◌∙◌, ap, arith}
use Rattle.table_rows.proofs.Numerals.{next_digit, too_large}
use Rattle.table_rows.proofs.number.numeral_value.Goals as goal

pub overflow_sub-byte : goal.overflow_sub-byte
overflow_sub-byte c = (next_digit c.args.digits.now c.loop-byte.byte-index c.loop-byte.value c.requires c.loop-byte-test.true c.loop-byte.invariant).0

pub returns-then-value-digit : goal.returns-then-value-digit
returns-then-value-digit c =
    let next = next_digit c.args.digits.now c.loop-byte.byte-index c.loop-byte.value c.requires c.loop-byte-test.true c.loop-byte.invariant in
    too_large c.args.digits.now (c.loop-byte.byte-index + 1) (omega (arith, next, c.from-digit.ensures, c.if-value-digit.true))

pub loop-byte-preserved : goal.loop-byte-preserved
loop-byte-preserved c =
    ap (λ n. c.loop-byte.value * 10 + n) c.from-digit.ensures
    ∙ (next_digit c.args.digits.now c.loop-byte.byte-index c.loop-byte.value c.requires c.loop-byte-test.true c.loop-byte.invariant).1
