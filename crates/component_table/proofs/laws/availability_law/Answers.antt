use Rattle.component_table.proofs.Availability.{exactly_available}
use Rattle.component_table.proofs.laws.availability_law.Goals as goal

pub returns : goal.returns
returns c = exactly_available
