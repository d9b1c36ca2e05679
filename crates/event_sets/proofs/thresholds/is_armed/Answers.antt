use Rattle.event_sets.proofs.Words.{◌∙◌, sym, ap, arith, nat_lt, any_later, drop_at}
use Rattle.event_sets.proofs.thresholds.is_armed.Goals as goal

pub returns-then-at-ne0 : goal.returns-then-at-ne0
returns-then-at-ne0 c = grind (arith, drop_at)

pub loop-i-preserved : goal.loop-i-preserved
loop-i-preserved c =
    let none = ap (nat_lt 0) c.if-at-ne0.false in
    sym (any_later (nat_lt 0) c.args.thresholds.now c.loop-i.i c.at.result c.at.ensures.item none) ∙ c.loop-i.invariant
