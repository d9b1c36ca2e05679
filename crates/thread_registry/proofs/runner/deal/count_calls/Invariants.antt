use Rattle.thread_registry.proofs.Words.{◌≡◌, ℕ, ◌<◌, length, take, slice_index_or, planned_at}
use Rattle.thread_registry.proofs.runner.deal.count_calls.Given as goal

abbrev pub invariant-loop-line : goal.invariant-loop-line
invariant-loop-line l =
    record {
      len : length l.counts ≡ 64;
      each : (t : ℕ) → t < 64 → slice_index_or l.counts t 0 ≡ length (planned_at t (take l.line-index l.plan));
    }
