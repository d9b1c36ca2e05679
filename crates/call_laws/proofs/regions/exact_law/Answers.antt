use Rattle.call_laws.proofs.Bounded.{natives_are_exact}
use Rattle.call_laws.proofs.regions.exact_law.Goals as goal

pub returns : goal.returns
returns c = natives_are_exact
