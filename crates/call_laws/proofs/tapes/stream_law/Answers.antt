use Rattle.call_laws.proofs.Given.{amounts_fit, stamps_fit, stamps_rise}
use Rattle.call_laws.proofs.tapes.stream_law.Goals as goal

pub returns : goal.returns
returns c = record { amounts = amounts_fit; stamps = stamps_rise; last = stamps_fit }
