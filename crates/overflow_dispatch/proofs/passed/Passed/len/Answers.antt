use Rattle.overflow_dispatch.proofs.Places.{length-places}
use Rattle.overflow_dispatch.proofs.passed.Passed.len.Goals as goal

pub returns-clause-short : goal.returns-clause-short
returns-clause-short c = rw (← c.self.view_is) (length-places c.self.inside.bits 0 32)
