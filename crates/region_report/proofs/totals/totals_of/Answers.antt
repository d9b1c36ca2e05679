use Rattle.region_report.proofs.Words.{common_steps, ◌<◌, ◌^◌, ◌∙◌, All, ap, ap₂, arith, map, subst, sym, take, length-map, length-take-le, take_all}
use Rattle.region_report.proofs.Words.{span_text, total_of, with_instance_at, RegionTotal}
use Rattle.region_report.proofs.TotalsKept.{AreDistinct, few_instances, names_distinct, one_more, totals_more, totals_none}
use Rattle.region_report.proofs.totals.totals_of.Goals as goal

pub loop-span-init : goal.loop-span-init
loop-span-init c = totals_none c.args.events c.args.thread _ (λ n. n.now) c.args.names.now.keys _ c.len.ensures.len c.in_ok-totals.ensures

pub add_at-requires-clause-few : goal.add_at-requires-clause-few
add_at-requires-clause-few c =
    subst (All (λ (t : RegionTotal). t.instances < 2 ^ 63)) (sym c.loop-span.invariant)
    (few_instances c.args.events c.args.thread (map span_text (take c.loop-span.span-index c.args.spans.now)) (map (λ n. n.now) c.args.names.now.keys)
    (omega (arith, length-map (take c.loop-span.span-index c.args.spans.now) span_text, length-take-le c.loop-span.span-index c.args.spans.now (omega arith))))

pub loop-span-preserved : goal.loop-span-preserved
loop-span-preserved c =
    let names = map (λ n. n.now) c.args.names.now.keys in
    let before = map span_text (take c.loop-span.span-index c.args.spans.now) in
    c.add_at.ensures ∙ ap₂ (λ place totals. with_instance_at place c.span-item.result.values totals) c.place_of-place.ensures.place c.loop-span.invariant
    ∙ totals_more c.args.events c.args.thread before (span_text c.span-item.result) names (subst AreDistinct (sym c.requires.names) (names_distinct c.args.thread (map span_text c.args.spans.now)))
    ∙ ap (λ spans. map (total_of c.args.events c.args.thread spans) names) (sym (one_more span_text c.args.spans.now c.loop-span.span-index c.span-item.result (omega arith) c.span-item.is))

pub returns : goal.returns
returns c =
    c.loop-span.invariant
    ∙ ap (λ spans. map (total_of c.args.events c.args.thread (map span_text spans)) (map (λ n. n.now) c.args.names.now.keys)) (take_all c.loop-span.span-index c.args.spans.now (omega arith))

pub add_at-requires-clause-within : goal.add_at-requires-clause-within
add_at-requires-clause-within c = grind (arith, common_steps)
