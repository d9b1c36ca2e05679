use Rattle.postfix_rules.proofs.Words.{◌∙◌, ◌≤◌, ℕ, length, drop, sym, ap, subst, prefix_len-le-length, is_digit, infix_from}
use Rattle.std.specs.Prelude.{false}
use Rattle.postfix_rules.proofs.InfixParts.{inside-digits}
use Rattle.postfix_rules.proofs.infix_part.split_digits.Goals as goal

pub split_at-requires : goal.split_at-requires
split_at-requires c = subst (λ n. n ≤ length c.args.text.now) (sym c.digits_in-digits.ensures) (prefix_len-le-length is_digit c.args.text.now)

pub returns-clause-after : goal.returns-clause-after
returns-clause-after c =
    ap (infix_from false) (c.split_at.ensures.back ∙ ap (λ (n : ℕ). drop n c.args.text.now) c.digits_in-digits.ensures) ∙ inside-digits c.args.text.now
