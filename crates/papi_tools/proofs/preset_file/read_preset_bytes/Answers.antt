use Rattle.papi_tools.proofs.HoldingLemmas.{one_opened}
use Rattle.papi_tools.proofs.preset_file.read_preset_bytes.Goals as goal

pub returns-clause-held : goal.returns-clause-held
returns-clause-held g c = one_opened _ _ c.whole_file.ensures.held
