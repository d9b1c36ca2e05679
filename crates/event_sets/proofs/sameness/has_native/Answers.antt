use Rattle.event_sets.proofs.Words.{arith, rules, nat_tests, any_here, any_later}
use Rattle.event_sets.proofs.sameness.has_native.Goals as goal

pub returns-then-is_same : goal.returns-then-is_same
returns-then-is_same c = grind (arith, nat_tests, any_here)

pub loop-i-preserved : goal.loop-i-preserved
loop-i-preserved c = search (rules, any_later)
