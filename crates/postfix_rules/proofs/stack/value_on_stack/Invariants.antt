use Rattle.postfix_rules.proofs.Stacks.{Runs}
use Rattle.postfix_rules.proofs.stack.value_on_stack.Given as goal

abbrev pub invariant-loop-i : goal.invariant-loop-i
invariant-loop-i l = Runs l.counts l.tokens l.i l.height l.stack
