use Rattle.name_encoder.proofs.Words.{arith, elements}
use Rattle.name_encoder.proofs.attribute.Attributes.with_mask.Goals as goal

pub returns-then-is_some : goal.returns-then-is_some
returns-then-is_some c = grind (arith, elements)

pub returns-then-alone : goal.returns-then-alone
returns-then-alone c = grind (arith, elements)

pub returns-then-self-row : goal.returns-then-self-row
returns-then-self-row c = grind (arith, elements)

pub returns-then-self-3 : goal.returns-then-self-3
returns-then-self-3 c = grind (arith, elements)

pub returns-else-self-3 : goal.returns-else-self-3
returns-else-self-3 c = grind (arith, elements)
