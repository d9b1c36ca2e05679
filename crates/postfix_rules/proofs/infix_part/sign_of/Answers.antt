use Rattle.std.proofs.Common.{sym}
use Rattle.postfix_rules.proofs.InfixParts.{no-token, sign-none}
use Rattle.postfix_rules.proofs.infix_part.sign_of.Goals as goal

pub returns-in-None : goal.returns-in-None
returns-in-None c = no-token _ (sign-none c.args.sign.now c.requires c.if-sign-eq40.false c.if-sign-eq41.false (sym c.in-None.ensures))
