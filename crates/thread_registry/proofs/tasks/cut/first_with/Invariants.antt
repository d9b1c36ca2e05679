use Rattle.thread_registry.proofs.Words.{◌≡◌, ◌<◌, ◌≤◌, ℕ, take, busy}
use Rattle.thread_registry.proofs.tasks.cut.first_with.Given as goal

abbrev pub invariant-loop-place : goal.invariant-loop-place
invariant-loop-place g l =
    record {
      count : l.count ≡ busy g.T.Task.load (take l.place l.tasks);
      few : l.count ≤ l.wanted;
      least : (j : ℕ) → j < l.place → busy g.T.Task.load (take j l.tasks) < l.wanted;
    }
