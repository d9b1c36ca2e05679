use Rattle.std.proofs.Common.{◌≡◌, ℕ, ◌<◌, ◌≤◌, slice_index_or}
use Rattle.thread_registry.proofs.tasks.work_in_turn.Given as goal

abbrev pub invariant-loop-place : goal.invariant-loop-place
invariant-loop-place g l =
    record {
      done : (k : ℕ) (d : _) → k < l.place → g.T.Task.done l.book (slice_index_or l.initial.tasks k d) (slice_index_or l.tasks k d);
      rest : (k : ℕ) (d : _) → l.place ≤ k → slice_index_or l.tasks k d ≡ slice_index_or l.initial.tasks k d;
    }
