use Rattle.call_laws.proofs.LookedUp.{script_is_looked_up}
use Rattle.call_laws.proofs.regions.script_law.Goals as goal

pub returns : goal.returns
returns c = script_is_looked_up
