use Rattle.postfix_rules.proofs.Words.{◌≡◌, ℕ, ◌<◌, true, get_or, is_digit}
use Rattle.postfix_rules.proofs.infix_part.digits_in.Given as goal

abbrev pub invariant-loop-i : goal.invariant-loop-i
invariant-loop-i l = (k : ℕ) → k < l.i → is_digit (get_or l.text k 0) ≡ true
