use Rattle.call_laws.proofs.Shown.{accum_shows}
use Rattle.call_laws.proofs.values.accum_law.Goals as goal

pub returns : goal.returns
returns c = accum_shows
