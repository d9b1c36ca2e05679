use Rattle.event_sets.proofs.Words.{arith, nat_tests, any_here, any_later, found_here, found_later}
use Rattle.event_sets.proofs.sameness.place_of.Goals as goal

pub returns-then-is_same_event-clause-there : goal.returns-then-is_same_event-clause-there
returns-then-is_same_event-clause-there c = grind (arith, nat_tests, any_here)

pub returns-then-is_same_event-clause-first : goal.returns-then-is_same_event-clause-first
returns-then-is_same_event-clause-first c = grind (arith, nat_tests, found_here)

pub loop-i-preserved : goal.loop-i-preserved
loop-i-preserved c = grind (arith, nat_tests, found_later, any_later)
