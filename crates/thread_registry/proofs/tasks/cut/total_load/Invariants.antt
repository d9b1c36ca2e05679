use Rattle.thread_registry.proofs.Words.{◌≡◌, ◌≤◌, ◌*◌, take, sum_by}
use Rattle.thread_registry.proofs.tasks.cut.total_load.Given as goal

abbrev pub invariant-loop-task : goal.invariant-loop-task
invariant-loop-task g l =
    record {
      sum : l.total ≡ sum_by g.T.Task.load (take l.task-index l.tasks);
      small : l.total ≤ l.task-index * 0xFFFF_FFFF;
    }
