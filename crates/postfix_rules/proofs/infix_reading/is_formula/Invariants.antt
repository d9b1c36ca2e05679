use Rattle.postfix_rules.proofs.InfixEnds.{Checked}
use Rattle.postfix_rules.proofs.infix_reading.is_formula.Given as goal

abbrev pub invariant-loop-i : goal.invariant-loop-i
invariant-loop-i l = Checked l.natives l.tokens l.i l.height
