use Rattle.std.proofs.Common.{arith}
use Rattle.std.proofs.lemmas.Grind.{common_steps}
use Rattle.event_tables.specs.Lines.{fixed_mods_of}
use Rattle.event_tables.proofs.row.fixed_mods_of.Goals as goal

pub returns-in-45 : goal.returns-in-45
unfolding fixed_mods_of
returns-in-45 c = grind (arith, common_steps)

pub returns-in-e : goal.returns-in-e
unfolding fixed_mods_of
returns-in-e c = grind (arith, common_steps)

pub returns-in-i : goal.returns-in-i
unfolding fixed_mods_of
returns-in-i c = grind (arith, common_steps)

pub returns-in-ei : goal.returns-in-ei
unfolding fixed_mods_of
returns-in-ei c = grind (arith, common_steps)

pub returns-in-ei-2 : goal.returns-in-ei-2
unfolding fixed_mods_of
returns-in-ei-2 c = grind (arith, common_steps)

pub returns-in_default : goal.returns-in_default
unfolding fixed_mods_of
returns-in_default c = grind (arith, common_steps)

pub returns-in_default-2 : goal.returns-in_default-2
unfolding fixed_mods_of
returns-in_default-2 c = grind (arith, common_steps)

pub returns-in_default-3 : goal.returns-in_default-3
unfolding fixed_mods_of
returns-in_default-3 c = grind (arith, common_steps)

pub returns-in_default-4 : goal.returns-in_default-4
unfolding fixed_mods_of
returns-in_default-4 c = grind (arith, common_steps)

pub returns-in_default-5 : goal.returns-in_default-5
unfolding fixed_mods_of
returns-in_default-5 c = grind (arith, common_steps)

pub returns-in_default-6 : goal.returns-in_default-6
unfolding fixed_mods_of
returns-in_default-6 c = grind (arith, common_steps)
