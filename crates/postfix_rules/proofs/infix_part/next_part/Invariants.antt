use Rattle.postfix_rules.proofs.Words.{◌≡◌, false, drop, infix_from}
use Rattle.postfix_rules.proofs.infix_part.next_part.Given as goal

abbrev pub invariant-loop-i : goal.invariant-loop-i
invariant-loop-i l = infix_from false l.text ≡ infix_from false (drop l.i l.text)
