use Rattle.papi_tools.proofs.RegionTotalLemmas.{totals_are_sums}
use Rattle.papi_tools.proofs.laws.totals_law.Goals as goal

pub returns : goal.returns
returns c = totals_are_sums
