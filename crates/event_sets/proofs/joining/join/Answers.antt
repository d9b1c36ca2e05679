-- a native event that is there does not join
use Rattle.event_sets.proofs.Words.{nat_tests, arith}
use Rattle.event_sets.proofs.JoinedNatives.{joined_over, joins_new, joins_old}
use Rattle.event_sets.proofs.joining.join.Goals as goal
use Rattle.event_sets.proofs.joining.join.Goals.{then-not-has_native, else-not-has_native}

pub push-requires : goal.push-requires
push-requires c = grind (arith, nat_tests, joined_over)

pub loop-i-preserved : goal.loop-i-preserved
loop-i-preserved c = grind (arith, nat_tests, then-not-has_native, joins_new, else-not-has_native, joins_old)
