use Rattle.call_laws.proofs.CountedBy.{counts_by_position}
use Rattle.call_laws.proofs.regions.counting_law.Goals as goal

pub returns : goal.returns
returns c = counts_by_position
