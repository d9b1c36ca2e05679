use Rattle.profil_hist.proofs.Words.{◌≡◌, ◌∙◌, ◌-◌, ◌<◌, ◌≤◌, ℕ, length, map, get_or, refl, sym, subst, arith, length-map}
use Rattle.profil_hist.proofs.Words.{IsPartitionPoint, range_text, RangeStart}
use Rattle.profil_hist.proofs.InOrder.{at-range, none-below, none-last, placed-within}
use Rattle.profil_hist.proofs.placing.range_of.Goals as goal

abbrev any_place : RangeStart
any_place = record { start = 0; range = 0 }

pub returns-then-below-eq0 : goal.returns-then-below-eq0
returns-then-below-eq0 c =
    let none : c.count_below-below.result ≡ 0 = omega arith in
    let P : ℕ → Type 0 = λ n. IsPartitionPoint (λ (p : RangeStart). p.start ≤ c.args.pc) (λ (p : RangeStart). c.args.pc < p.start) c.args.order.now n in
    none-below (map range_text c.args.ranges.now) c.args.order.now c.args.pc any_place c.requires.ordered (subst P none c.count_below-below.ensures.point)

pub offset_bounds-ranges-range : goal.offset_bounds-ranges-range
offset_bounds-ranges-range c = grind (arith, placed-within, length-map)

pub bounds-ranges-range : goal.bounds-ranges-range
bounds-ranges-range c = grind (arith, placed-within)

pub returns-then-holds : goal.returns-then-holds
returns-then-holds c = grind (arith, placed-within, at-range)

pub returns-else-holds : goal.returns-else-holds
returns-else-holds c =
    let p : RangeStart = get_or c.args.order.now (c.count_below-below.result - 1) any_place in
    let lt : p.range < length c.args.ranges.now = placed-within c.args.ranges.now p (c.requires.ordered.all.right (c.count_below-below.result - 1) any_place (omega arith)) in
    let at = at-range c.args.ranges.now p.range c.index-ranges-range.result c.index-ranges-range.is lt in
    none-last (map range_text c.args.ranges.now) c.args.order.now c.args.pc c.count_below-below.result p.range (range_text c.index-ranges-range.result) any_place c.requires.kept c.requires.ordered
    c.count_below-below.ensures.point c.count_below-below.ensures.bound (omega arith) refl at (sym c.holds.ensures ∙ c.if-holds.false)
