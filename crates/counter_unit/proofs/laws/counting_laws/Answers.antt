use Rattle.counter_unit.proofs.Counts.{added}
use Rattle.counter_unit.proofs.laws.counting_laws.Goals as goal

pub returns-clause-follows : goal.returns-clause-follows
returns-clause-follows c = added
