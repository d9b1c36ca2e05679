use Rattle.profil_hist.proofs.Words.{◌∙◌, ◌<◌, Some, map, length, get_or, refl, ap, arith, option_map, RangeText, range_text, MapRange, RangeStart}
use Rattle.profil_hist.proofs.InOrder.{at-range, places-more}
use Rattle.profil_hist.proofs.placing.in_file_order.Goals as goal

pub loop-range-preserved : goal.loop-range-preserved
loop-range-preserved c =
    let lt : c.loop-range.range < length c.args.ranges.now = omega arith in
    let at = at-range c.args.ranges.now c.loop-range.range c.index-ranges-range.result c.index-ranges-range.is lt in
    let new : RangeStart = record { start = (get_or c.args.ranges.now c.loop-range.range c.index-ranges-range.result).start; range = c.loop-range.range } in
    rw c.in_ok-push.ensures.items
    (places-more (map range_text c.args.ranges.now) c.loop-range.range c.loop-range.places.items new c.loop-range.invariant
    (ap (option_map (λ (r : RangeText). r.start)) at ∙ ap (λ (r : MapRange). Some r.start) c.index-ranges-range.is) refl)
