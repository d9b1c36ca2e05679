use Rattle.soak_input.proofs.Words.{◌≡◌, take, string_bytes, thread_lines}
use Rattle.soak_input.proofs.summary.summary_text.Given as goal

abbrev pub invariant-loop-thread : goal.invariant-loop-thread
invariant-loop-thread l = string_bytes l.text ≡ thread_lines 0 (take l.thread l.totals)
