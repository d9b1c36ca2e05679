use Rattle.postfix_rules.proofs.Components.{SameBelow}
use Rattle.postfix_rules.proofs.derived.are_of_one_component.Given as goal

abbrev pub invariant-loop-i : goal.invariant-loop-i
invariant-loop-i l = SameBelow l.natives l.comp l.i
