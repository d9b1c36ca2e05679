use Rattle.thread_registry.proofs.Words.{arith, nat_tests}
use Rattle.thread_registry.proofs.Marked.{none_marked, marked_at}
use Rattle.thread_registry.proofs.runner.marks.marks_of.Goals as goal

pub loop-i-init : goal.loop-i-init
loop-i-init c = none_marked

pub loop-i-preserved : goal.loop-i-preserved
loop-i-preserved c = grind (arith, nat_tests, marked_at)
