use Rattle.std.specs.Prelude.{FitsSigned, ℤ}
use Rattle.soak_input.proofs.Words.{arith, rules, to_z, w64, to_z-of_z, drop_item, add_values, ThreadTotal}
use Rattle.soak_input.proofs.Sums.{added_more}
use Rattle.soak_input.proofs.summary.sum_of.Goals as goal

pub loop-total-preserved : goal.loop-total-preserved
loop-total-preserved c =
    let total = c.total-item.result in
    let next = c.add_values-sum.result in
    let next_fits : FitsSigned w64 next = search rules in
    rw (to_z-of_z w64 next next_fits)
    (added_more (λ (sum : ℤ) (total : ThreadTotal). add_values sum total.values) c.args.totals.now c.loop-total.total-index total (to_z w64 c.loop-total.sum-bits) next _
    (drop_item c.args.totals.now c.loop-total.total-index total (omega arith) c.total-item.is) c.add_values-sum.ensures c.loop-total.invariant)
