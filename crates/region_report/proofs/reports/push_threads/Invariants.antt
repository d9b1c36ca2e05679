use Rattle.region_report.proofs.Words.{◌≡◌, ◌++◌, map, string_bytes, flat_map, range_with_len, thread_text, span_text}
use Rattle.region_report.proofs.reports.push_threads.Given as goal

abbrev pub invariant-loop-thread : goal.invariant-loop-thread
invariant-loop-thread l = string_bytes l.text ≡ string_bytes l.initial.text ++ flat_map (thread_text l.events (map span_text l.spans)) (range_with_len 0 l.thread)
