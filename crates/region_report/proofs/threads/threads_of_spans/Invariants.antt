use Rattle.region_report.proofs.Words.{◌≡◌, ◌<◌, ℕ, false, map, take, slice_index_or, THREADS, has_spans, span_text}
use Rattle.region_report.proofs.threads.threads_of_spans.Given as goal

abbrev pub invariant-loop-span : goal.invariant-loop-span
invariant-loop-span l = (t : ℕ) → t < THREADS → slice_index_or l.flags t false ≡ has_spans (map span_text (take l.span-index l.spans)) t
