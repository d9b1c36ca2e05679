use Rattle.call_laws.proofs.OverTapes.{natives_are_exact_over_tape}
use Rattle.call_laws.proofs.tapes.tape_exact_law.Goals as goal

pub returns : goal.returns
returns c = natives_are_exact_over_tape
