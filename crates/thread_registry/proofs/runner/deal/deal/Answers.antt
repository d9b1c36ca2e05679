use Rattle.thread_registry.proofs.Words.{arith, nat_tests, get_or_default}
use Rattle.thread_registry.proofs.Dealt.{planned-more, some_line}
use Rattle.thread_registry.proofs.runner.deal.deal.Goals as goal

pub loop-line-preserved : goal.loop-line-preserved
loop-line-preserved c = grind (arith, nat_tests, some_line, planned-more, get_or_default)
