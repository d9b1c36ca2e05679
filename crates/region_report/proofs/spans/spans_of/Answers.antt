use Rattle.region_report.proofs.Words.{arith, sym, length-map, reading_values, span_text}
use Rattle.region_report.proofs.Counted.{span_all, span_on}
use Rattle.region_report.proofs.spans.spans_of.Goals as goal

pub loop-line-preserved : goal.loop-line-preserved
loop-line-preserved c =
    span_on (reading_values c.args.readings.now) c.args.lines.now c.loop-line.line-index _ _ c.line-item.result _ _ _ (omega arith) c.line-item.is (sym (length-map _ span_text)) (sym (length-map _ span_text))
    c.in_ok-push_span.ensures c.loop-line.invariant

pub returns : goal.returns
returns c = span_all (reading_values c.args.readings.now) c.args.lines.now c.loop-line.line-index _ _ _ (omega arith) c.loop-line.invariant
