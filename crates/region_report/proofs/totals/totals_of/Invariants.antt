use Rattle.region_report.proofs.Words.{◌≡◌, map, take, span_text, total_of}
use Rattle.region_report.proofs.totals.totals_of.Given as goal

abbrev pub invariant-loop-span : goal.invariant-loop-span
invariant-loop-span l = l.totals.items ≡ map (total_of l.events l.thread (map span_text (take l.span-index l.spans))) (map (λ n. n.now) l.names.keys)
