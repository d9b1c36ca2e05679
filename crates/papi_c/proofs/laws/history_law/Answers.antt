use Rattle.papi_c.proofs.Histories.{each_history}
use Rattle.papi_c.proofs.laws.history_law.Goals as goal

pub returns : goal.returns
returns c = each_history
