use Rattle.region_report.proofs.Words.{◌≡◌, ◌++◌, drop, length, map, reading_values, span_text, spans_from}
use Rattle.region_report.proofs.spans.spans_of.Given as goal

abbrev pub invariant-loop-line : goal.invariant-loop-line
invariant-loop-line l =
    map span_text l.spans.items ++ spans_from (reading_values l.readings) (length l.spans.items) (drop l.line-index l.lines) ≡ spans_from (reading_values l.readings) 0 l.lines
