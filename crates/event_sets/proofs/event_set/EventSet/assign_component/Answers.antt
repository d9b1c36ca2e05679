use Rattle.event_sets.proofs.Words.{arith, nat_tests}
use Rattle.event_sets.proofs.Kept.{assigned, assigned_matched, assigned_sound}
use Rattle.event_sets.proofs.event_set.EventSet.assign_component.Goals as goal

pub invariant_of-self : goal.invariant_of-self
invariant_of-self c = grind (arith, nat_tests, assigned_sound, assigned, assigned_matched)
