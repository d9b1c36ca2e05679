use Rattle.thread_registry.proofs.Words.{◌≡◌, ℕ, ◌<◌, [], map, take, slice_index_or, vec_len, planned_at}
use Rattle.thread_registry.proofs.runner.deal.deal.Given as goal

abbrev pub invariant-loop-line : goal.invariant-loop-line
invariant-loop-line l =
    record {
      len : vec_len l.lists ≡ 64;
      each : (t : ℕ) → t < 64 → slice_index_or (map (λ c. c.items) l.lists.items) t [] ≡ planned_at t (take l.line-index l.plan);
    }
