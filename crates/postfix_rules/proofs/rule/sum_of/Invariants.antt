use Rattle.postfix_rules.proofs.Words.{◌≡◌, drop, ◌+ℤ◌, signed_sum, wrapped}
use Rattle.postfix_rules.proofs.rule.sum_of.Given as goal

abbrev pub invariant-loop-x : goal.invariant-loop-x
invariant-loop-x l = wrapped (signed_sum l.counts) ≡ wrapped (l.sum +ℤ signed_sum (drop l.x-index l.counts))
