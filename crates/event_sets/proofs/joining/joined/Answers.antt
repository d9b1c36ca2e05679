-- a native event that is there does not join
use Rattle.event_sets.proofs.Words.{nat_tests, arith, length-append}
use Rattle.event_sets.proofs.JoinedNatives.{joined_over, joins_new, joins_old}
use Rattle.event_sets.proofs.joining.joined.Goals as goal
use Rattle.event_sets.proofs.joining.joined.Goals.{then-not-has_native+else-len, else-not-has_native}

pub returns-then-len-clause-none : goal.returns-then-len-clause-none
returns-then-len-clause-none c = grind (arith, nat_tests, joined_over)

pub loop-i-preserved : goal.loop-i-preserved
loop-i-preserved c = grind (arith, nat_tests, then-not-has_native+else-len, length-append, joins_new, else-not-has_native, joins_old)
