use Rattle.region_report.proofs.Words.{◌≡◌, ◌++◌, map, string_bytes, take, flat_map, read_text, span_text}
use Rattle.region_report.proofs.reports.push_reads.Given as goal

abbrev pub invariant-loop-span : goal.invariant-loop-span
invariant-loop-span l = string_bytes l.text ≡ string_bytes l.initial.text ++ flat_map read_text (map span_text (take l.span-index l.spans))
