use Rattle.soak_input.proofs.Words.{◌≡◌, ◌++◌, map, string_bytes, flat_map, range_with_len, call_lines}
use Rattle.soak_input.proofs.script.push_by_thread.Given as goal

abbrev pub invariant-loop-thread : goal.invariant-loop-thread
invariant-loop-thread l = string_bytes l.text ≡ string_bytes l.initial.text ++ flat_map (call_lines (map (λ s. s.now) l.calls)) (range_with_len 0 l.thread)
