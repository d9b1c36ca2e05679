use Rattle.call_laws.proofs.Begun.{scripts_are_begun}
use Rattle.call_laws.proofs.regions.begun_law.Goals as goal

pub returns : goal.returns
returns c = scripts_are_begun
