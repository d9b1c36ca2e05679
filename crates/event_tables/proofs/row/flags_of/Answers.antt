use Rattle.std.proofs.Common.{arith}
use Rattle.std.proofs.lemmas.Grind.{common_steps}
use Rattle.event_tables.specs.Lines.{flags_of}
use Rattle.event_tables.proofs.row.flags_of.Goals as goal

pub returns-in-45 : goal.returns-in-45
unfolding flags_of
returns-in-45 c = grind (arith, common_steps)

pub returns-in-d : goal.returns-in-d
unfolding flags_of
returns-in-d c = grind (arith, common_steps)

pub returns-in-n : goal.returns-in-n
unfolding flags_of
returns-in-n c = grind (arith, common_steps)

pub returns-in-dn : goal.returns-in-dn
unfolding flags_of
returns-in-dn c = grind (arith, common_steps)

pub returns-in-dn-2 : goal.returns-in-dn-2
unfolding flags_of
returns-in-dn-2 c = grind (arith, common_steps)

pub returns-in_default : goal.returns-in_default
unfolding flags_of
returns-in_default c = grind (arith, common_steps)

pub returns-in_default-2 : goal.returns-in_default-2
unfolding flags_of
returns-in_default-2 c = grind (arith, common_steps)

pub returns-in_default-3 : goal.returns-in_default-3
unfolding flags_of
returns-in_default-3 c = grind (arith, common_steps)

pub returns-in_default-4 : goal.returns-in_default-4
unfolding flags_of
returns-in_default-4 c = grind (arith, common_steps)

pub returns-in_default-5 : goal.returns-in_default-5
unfolding flags_of
returns-in_default-5 c = grind (arith, common_steps)

pub returns-in_default-6 : goal.returns-in_default-6
unfolding flags_of
returns-in_default-6 c = grind (arith, common_steps)
