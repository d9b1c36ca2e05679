use Rattle.std.proofs.Common.{length}
use Rattle.postfix_rules.proofs.InfixEnds.{Reads}
use Rattle.postfix_rules.proofs.infix_reading.formula_in.Given as goal

abbrev pub invariant-loop-part : goal.invariant-loop-part
invariant-loop-part l = Reads l.natives l.text l.rest l.tokens l.order

abbrev pub decreases-loop-part : goal.decreases-loop-part
decreases-loop-part l = length l.rest
