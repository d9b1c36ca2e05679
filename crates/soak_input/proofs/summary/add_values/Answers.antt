use Rattle.soak_input.proofs.Words.{FitsSigned, int_wrapping_add, ◌∙◌, ap, rules, to_z, w64, to_z-of_z, drop_at}
use Rattle.soak_input.proofs.Sums.{added_more}
use Rattle.soak_input.proofs.summary.add_values.Goals as goal

pub loop-i-preserved : goal.loop-i-preserved
loop-i-preserved c =
    let value = c.at.result in
    let next = c.wrapped_sum-sum.result in
    let sum = to_z w64 c.loop-i.sum-bits in
    let value_fits : FitsSigned w64 value = search rules in
    let next_fits : FitsSigned w64 next = search rules in
    rw (to_z-of_z w64 next next_fits)
    (added_more (int_wrapping_add w64) c.args.values.now c.loop-i.i value sum next _ (drop_at c.args.values.now c.loop-i.i value c.at.ensures.item)
    (c.wrapped_sum-sum.ensures ∙ ap (int_wrapping_add w64 sum) (to_z-of_z w64 value value_fits)) c.loop-i.invariant)
