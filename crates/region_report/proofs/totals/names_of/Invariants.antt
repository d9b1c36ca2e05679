use Rattle.region_report.proofs.Words.{◌≡◌, drop, map, fold, names_of, with_begin, span_text}
use Rattle.region_report.proofs.totals.names_of.Given as goal

abbrev pub invariant-loop-span : goal.invariant-loop-span
invariant-loop-span l = fold (with_begin l.thread) (map (λ n. n.now) l.names.keys) (map span_text (drop l.span-index l.spans)) ≡ names_of l.thread (map span_text l.spans)
