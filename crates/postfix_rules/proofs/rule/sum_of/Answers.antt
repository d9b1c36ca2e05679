use Rattle.postfix_rules.proofs.Words.{rules, ◌≡◌, ◌∙◌, ◌+◌, ◌%◌, pos, ◌+ℤ◌, FitsSigned, to_z, of_z, w64, slice_index_or, sym, wraps, wrapped}
use Rattle.postfix_rules.proofs.Sums.{sum-end, sum-more, sum-start}
use Rattle.postfix_rules.proofs.rule.sum_of.Goals as goal

pub loop-x-init : goal.loop-x-init
loop-x-init c = sum-start c.args.counts.now

pub loop-x-preserved : goal.loop-x-preserved
loop-x-preserved c =
    let x = slice_index_or c.args.counts.now c.loop-x.x-index (pos 0) in
    let next : to_z w64 ((c.loop-x.sum-bits + of_z w64 x) % 18446744073709551616) ≡ wrapped (to_z w64 c.loop-x.sum-bits +ℤ x) = search (rules, wraps) in
    c.loop-x.invariant ∙ sum-more c.args.counts.now c.loop-x.x-index (to_z w64 c.loop-x.sum-bits) _ (pos 0) c.loop-x-test.true next

pub returns : goal.returns
returns c =
    let fits : FitsSigned w64 (to_z w64 c.loop-x.sum-bits) = search rules in
    sym (c.loop-x.invariant ∙ sum-end c.args.counts.now c.loop-x.x-index (to_z w64 c.loop-x.sum-bits) c.loop-x-test.false fits)
