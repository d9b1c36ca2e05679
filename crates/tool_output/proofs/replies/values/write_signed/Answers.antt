use Rattle.tool_output.proofs.Words.{◌≡◌, ◌+◌, ◌-◌, ◌++◌, arith, refl, ap, drop, to_z-of_z, List, ℕ, length-decimal-le, drop-set, minus_first}
use Rattle.tool_output.proofs.Words.{LONGEST_VALUE}
use Rattle.tool_output.proofs.replies.values.write_signed.Goals as goal

pub write_decimal-start-requires : goal.write_decimal-start-requires
write_decimal-start-requires c =
    let k : LONGEST_VALUE ≡ 21 = refl in
    record { room = omega (arith, k, c.requires.room, length-decimal-le 19 c.unsigned_abs.result (omega arith) (omega arith) (omega arith)); inside = c.requires.inside }

pub returns-then-value-ge0-clause-near : goal.returns-then-value-ge0-clause-near
returns-then-value-ge0-clause-near c =
    let k : LONGEST_VALUE ≡ 21 = refl in
    omega (arith, k, c.write_decimal-start.ensures.start, length-decimal-le 19 c.unsigned_abs.result (omega arith) (omega arith) (omega arith))

pub overflow_sub-bytes : goal.overflow_sub-bytes
overflow_sub-bytes c =
    let k : LONGEST_VALUE ≡ 21 = refl in
    omega (arith, k, c.requires.room, c.write_decimal-start.ensures.start, length-decimal-le 19 c.unsigned_abs.result (omega arith) (omega arith) (omega arith))

pub overflow_sub-result : goal.overflow_sub-result
overflow_sub-result c =
    let k : LONGEST_VALUE ≡ 21 = refl in
    omega (arith, k, c.requires.room, c.write_decimal-start.ensures.start, length-decimal-le 19 c.unsigned_abs.result (omega arith) (omega arith) (omega arith))

pub returns-clause-near : goal.returns-clause-near
returns-clause-near c =
    let k : LONGEST_VALUE ≡ 21 = refl in
    omega (arith, k, c.requires.room, c.write_decimal-start.ensures.start, length-decimal-le 19 c.unsigned_abs.result (omega arith) (omega arith) (omega arith))

pub returns-clause-written : goal.returns-clause-written
returns-clause-written c =
    let k : LONGEST_VALUE ≡ 21 = refl in
    let w = c.write_decimal-start in
    let long = length-decimal-le 19 c.unsigned_abs.result (omega arith) (omega arith) (omega arith) in
    let e : w.result - 1 + 1 ≡ w.result = omega (arith, k, c.requires.room, w.ensures.start, long) in
    let back = to_z-of_z c.ranges.value in
    rw (drop-set w.new.bytes (w.result - 1) 45 (omega (arith, k, c.requires.room, c.requires.inside, w.ensures.start, w.auto.bytes, long)), e, w.ensures.written, c.unsigned_abs.ensures.value, back)
    (ap (λ (t : List ℕ). t ++ drop c.args.end c.args.bytes.now) (minus_first c.args.value (rw back at c.if-value-ge0.false)))
