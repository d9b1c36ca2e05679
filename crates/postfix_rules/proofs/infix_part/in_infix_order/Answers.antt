use Rattle.postfix_rules.proofs.Words.{subst, ReadsToken}
use Rattle.postfix_rules.proofs.InfixParts.{refused-part}
use Rattle.postfix_rules.proofs.infix_part.in_infix_order.Goals as goal

pub returns-in-Err : goal.returns-in-Err
returns-in-Err c = λ part h. refused-part part c.in-Err.cause (subst (λ r. ReadsToken r part) c.in-Err.is h)
