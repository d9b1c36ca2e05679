use Rattle.postfix_rules.proofs.Words.{sym, refl, part_of}
use Rattle.postfix_rules.proofs.judging.token_of.Goals as goal

pub returns-in-Some : goal.returns-in-Some
unfolding part_of
returns-in-Some c = rw (sym c.in-Some.ensures) refl

pub returns-in-None : goal.returns-in-None
unfolding part_of
returns-in-None c = rw (sym c.in-None.ensures) c.operand_of.ensures
