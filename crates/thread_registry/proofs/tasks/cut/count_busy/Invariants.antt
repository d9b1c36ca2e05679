use Rattle.thread_registry.proofs.Words.{◌≡◌, ◌≤◌, take, busy}
use Rattle.thread_registry.proofs.tasks.cut.count_busy.Given as goal

abbrev pub invariant-loop-task : goal.invariant-loop-task
invariant-loop-task g l =
    record {
      count : l.count ≡ busy g.T.Task.load (take l.task-index l.tasks);
      few : l.count ≤ l.task-index;
    }
