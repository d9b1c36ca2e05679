use Rattle.std.proofs.Common.{◌≡◌, ℕ, ◌<◌, ◌≤◌, [], map, slice_index_or, vec_len, vec_capacity}
use Rattle.thread_registry.proofs.runner.deal.empty_lists.Given as goal

abbrev pub invariant-loop-thread : goal.invariant-loop-thread
invariant-loop-thread l =
    record {
      len : vec_len l.lists ≡ l.thread;
      room : 64 ≤ vec_capacity l.lists;
      each : (t : ℕ) → t < l.thread → slice_index_or (map (λ c. c.items) l.lists.items) t [] ≡ [];
    }
