use Rattle.region_report.proofs.Words.{arith, map, length-map}
use Rattle.region_report.proofs.TotalsKept.{line_more, lines_all}
use Rattle.region_report.proofs.totals.push_totals.Goals as goal

pub loop-i-preserved : goal.loop-i-preserved
loop-i-preserved c =
    line_more c.args.thread c.loop-i.i (map (λ n. n.now) c.args.names.now) c.args.totals.now c.name_at.result.now c.index-totals-i.result _ _ _ c.name_at.ensures
    (omega (arith, c.requires, c.loop-i-test.true)) c.index-totals-i.is c.in_ok-push_total.ensures c.loop-i.invariant

pub returns : goal.returns
returns c = lines_all c.args.thread c.loop-i.i (map (λ n. n.now) c.args.names.now) c.args.totals.now _ _ (omega (arith, length-map c.args.names.now (λ n. n.now), c.loop-i-test.false)) c.loop-i.invariant
