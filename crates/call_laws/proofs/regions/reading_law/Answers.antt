use Rattle.call_laws.proofs.LinesRead.{reads_by_position}
use Rattle.call_laws.proofs.regions.reading_law.Goals as goal

pub returns : goal.returns
returns c = reads_by_position
