use Rattle.papi_tools.proofs.Words.{◌∙◌, ap, script_of}
use Rattle.papi_tools.proofs.region_counts.calls_of.Goals as goal

pub returns-clause-told : goal.returns-clause-told
returns-clause-told c = let read = ap script_of c.as_bytes.ensures.value ∙ c.in_ok-text.ensures.read c.requires in rw read at c.parse.ensures.told
