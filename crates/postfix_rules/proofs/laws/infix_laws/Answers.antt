use Rattle.postfix_rules.proofs.InfixAlone.{one_tree}
use Rattle.postfix_rules.proofs.InfixBothWays.{first_infix_faults, from_one_infix, same_tree}
use Rattle.postfix_rules.proofs.laws.infix_laws.Goals as goal

pub returns : goal.returns
returns c = record { one = one_tree; tree = same_tree; faults = first_infix_faults; places = from_one_infix }
