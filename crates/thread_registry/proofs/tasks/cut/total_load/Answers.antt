use Rattle.thread_registry.proofs.Words.{arith, common_steps}
use Rattle.thread_registry.proofs.tasks.cut.total_load.Goals as goal

pub loop-task-preserved : goal.loop-task-preserved
loop-task-preserved g c = record {
  sum = grind (arith, common_steps);
  small = omega arith;
}
