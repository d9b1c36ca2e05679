use Rattle.region_report.proofs.Words.{◌≡◌, ◌<◌, ℕ, false, take, slice_index_or, THREADS, has_lines}
use Rattle.region_report.proofs.threads.threads_of_lines.Given as goal

abbrev pub invariant-loop-line : goal.invariant-loop-line
invariant-loop-line l = (t : ℕ) → t < THREADS → slice_index_or l.flags t false ≡ has_lines (take l.line-index l.lines) t
