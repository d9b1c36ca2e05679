use Rattle.region_report.proofs.Words.{◌≡◌, ◌++◌, string_bytes, flat_map, range_with_len, thread_opening}
use Rattle.region_report.proofs.script.push_openings.Given as goal

abbrev pub invariant-loop-thread : goal.invariant-loop-thread
invariant-loop-thread l = string_bytes l.text ≡ string_bytes l.initial.text ++ flat_map (thread_opening l.lines l.events) (range_with_len 0 l.thread)
