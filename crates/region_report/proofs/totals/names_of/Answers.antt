use Rattle.region_report.proofs.Words.{arith, with_begin, span_text}
use Rattle.region_report.proofs.Pieces.{fold_end, fold_on}
use Rattle.region_report.proofs.totals.names_of.Goals as goal

pub loop-span-preserved : goal.loop-span-preserved
loop-span-preserved c = fold_on span_text (with_begin c.args.thread) c.args.spans.now c.loop-span.span-index c.span-item.result _ _ _ (omega arith) c.span-item.is c.in_ok-add_begin.ensures c.loop-span.invariant

pub returns : goal.returns
returns c = fold_end span_text (with_begin c.args.thread) c.args.spans.now c.loop-span.span-index _ _ (omega arith) c.loop-span.invariant
