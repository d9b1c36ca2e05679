use Rattle.soak_input.proofs.Words.{◌≡◌, drop, fold, add_values, sum_of}
use Rattle.soak_input.proofs.summary.sum_of.Given as goal

abbrev pub invariant-loop-total : goal.invariant-loop-total
invariant-loop-total l = fold (λ sum total. add_values sum total.values) l.sum (drop l.total-index l.totals) ≡ sum_of l.totals
