-- one event more
use Rattle.event_sets.proofs.Words.{nat_tests, arith, drop_at}
use Rattle.event_sets.proofs.Removed.{after_grows}
use Rattle.event_sets.proofs.joining.natives_of_all.Goals as goal

pub join-requires : goal.join-requires
join-requires c = grind (arith, nat_tests, drop_at, after_grows)

pub loop-i-preserved : goal.loop-i-preserved
loop-i-preserved c = grind (arith, nat_tests, drop_at)
