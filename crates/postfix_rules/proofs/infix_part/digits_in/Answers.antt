use Rattle.postfix_rules.proofs.Words.{◌≤◌, ◌∙◌, length, sym, arith, prefix_len_is, is_digit}
use Rattle.postfix_rules.proofs.infix_part.digits_in.Goals as goal

pub returns-then-not-is_digit : goal.returns-then-not-is_digit
returns-then-not-is_digit c =
    let le : c.loop-i.i ≤ length c.args.text.now = omega arith in
    sym (prefix_len_is is_digit c.args.text.now c.loop-i.i 0 le c.loop-i.invariant (λ lt. sym c.is_digit.ensures ∙ c.if-not-is_digit.true))

pub returns : goal.returns
returns c =
    let le : length c.args.text.now ≤ length c.args.text.now = omega arith in
    sym (prefix_len_is is_digit c.args.text.now (length c.args.text.now) 0 le (λ k lt. c.loop-i.invariant k (omega arith)) (λ lt. absurd (omega arith)))
