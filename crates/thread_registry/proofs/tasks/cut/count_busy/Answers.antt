use Rattle.thread_registry.proofs.Words.{arith, common_steps}
use Rattle.thread_registry.proofs.tasks.cut.count_busy.Goals as goal

pub loop-task-preserved : goal.loop-task-preserved
loop-task-preserved g c = record {
  count = grind (arith, common_steps);
  few = grind (arith, common_steps);
}
