use Rattle.call_laws.proofs.Noted.{notes_are}
use Rattle.call_laws.proofs.Often.{one_for_each}
use Rattle.call_laws.proofs.passings.overflow_law.Goals as goal

pub returns : goal.returns
returns c = record { notes = notes_are; count = one_for_each }
