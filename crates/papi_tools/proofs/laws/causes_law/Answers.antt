use Rattle.papi_tools.proofs.CauseLemmas.{causes_are_shown}
use Rattle.papi_tools.proofs.laws.causes_law.Goals as goal

pub returns : goal.returns
returns c = causes_are_shown
