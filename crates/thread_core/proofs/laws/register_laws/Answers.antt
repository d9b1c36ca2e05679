use Rattle.thread_core.proofs.ProgrammedNatives.{each_is_counted, no_other_is_programmed, nothing_is_programmed}
use Rattle.thread_core.proofs.laws.register_laws.Goals as goal

pub returns-clause-each : goal.returns-clause-each
returns-clause-each c = each_is_counted

pub returns-clause-no_other : goal.returns-clause-no_other
returns-clause-no_other c = no_other_is_programmed

pub returns-clause-nothing : goal.returns-clause-nothing
returns-clause-nothing c = nothing_is_programmed
