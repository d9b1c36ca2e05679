use Rattle.thread_registry.proofs.Words.{◌≡◌, ℕ, ◌++◌, ◌<◌, [], map, drop, length, slice_index_or, replicate, false, vec_len, vec_capacity}
use Rattle.thread_registry.proofs.Words.{AllAnswered, line_of, planned_at, lines_by}
use Rattle.thread_registry.proofs.Merged.{rests}
use Rattle.thread_registry.proofs.runner.merge.merge.Given as goal

abbrev pub invariant-loop-line : goal.invariant-loop-line
invariant-loop-line l =
    record {
      taken_len : length l.taken ≡ 64;
      len : vec_len l.lines ≡ l.line-index;
      room : vec_capacity l.lines ≡ vec_capacity l.initial.lines;
      answered : AllAnswered l.replies l.lines.items;
      counts : (t : ℕ) → t < 64 → length (slice_index_or (rests l.taken l.replies) t []) ≡ length (planned_at t (drop l.line-index l.plan));
      whole :
          map (line_of l.replies) l.lines.items ++ lines_by (record { flags = l.registry; replies = rests l.taken l.replies }) (drop l.line-index l.plan)
          ≡ lines_by (record { flags = replicate 64 false; replies = l.replies }) l.plan;
    }
