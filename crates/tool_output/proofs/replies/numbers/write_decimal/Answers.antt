use Rattle.tool_output.proofs.Words.{◌≡◌, ◌+◌, ◌-◌, ◌∷◌, ◌∙◌, ◌++◌, arith, ap, sym, drop, List, ℕ, drop-set, length}
use Rattle.std.proofs.lemmas.Fmt.{decimal_digit}
use Rattle.tool_output.proofs.replies.numbers.write_decimal.Goals as goal

pub overflow_sub-bytes : goal.overflow_sub-bytes
overflow_sub-bytes c = omega (arith, c.requires.room, ap length (decimal_digit c.args.number c.if-number-lt10.true))

pub bounds-bytes-end : goal.bounds-bytes-end
bounds-bytes-end c = omega (arith, c.requires.room, c.requires.inside, ap length (decimal_digit c.args.number c.if-number-lt10.true))

pub overflow_sub-result : goal.overflow_sub-result
overflow_sub-result c = omega (arith, c.requires.room, ap length (decimal_digit c.args.number c.if-number-lt10.true))

pub returns-then-number-lt10-clause-start : goal.returns-then-number-lt10-clause-start
returns-then-number-lt10-clause-start c = omega (arith, c.requires.room, ap length (decimal_digit c.args.number c.if-number-lt10.true))

pub returns-then-number-lt10-clause-written : goal.returns-then-number-lt10-clause-written
returns-then-number-lt10-clause-written c =
    let digit = decimal_digit c.args.number c.if-number-lt10.true in
    let size = ap length digit in
    let back : c.args.end - 1 + 1 ≡ c.args.end = omega (arith, c.requires.room, size) in
    drop-set c.args.bytes.now (c.args.end - 1) (48 + c.args.number) (omega (arith, c.requires.room, c.requires.inside, size))
    ∙ ap (λ (k : ℕ). (48 + c.args.number) ∷ drop k c.args.bytes.now) back
    ∙ ap (λ (t : List ℕ). t ++ drop c.args.end c.args.bytes.now) (sym digit)
