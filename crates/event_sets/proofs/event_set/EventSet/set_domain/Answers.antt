use Rattle.event_sets.proofs.Words.{arith, nat_tests}
use Rattle.event_sets.proofs.Kept.{domain_sound}
use Rattle.event_sets.proofs.event_set.EventSet.set_domain.Goals as goal

pub invariant_of-self : goal.invariant_of-self
invariant_of-self c = grind (arith, nat_tests, domain_sound)
