use Rattle.papi_tools.proofs.OwnStatusLemmas.{status_is_own}
use Rattle.papi_tools.proofs.laws.status_law.Goals as goal

pub returns : goal.returns
returns c = status_is_own
