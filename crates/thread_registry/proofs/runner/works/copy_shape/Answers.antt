use Rattle.thread_registry.proofs.Words.{arith, nat_tests}
use Rattle.papi_base.proofs.Steps.{take_at}
use Rattle.thread_registry.proofs.runner.works.copy_shape.Goals as goal

pub loop-i-preserved : goal.loop-i-preserved
loop-i-preserved c = grind (arith, nat_tests, take_at)
