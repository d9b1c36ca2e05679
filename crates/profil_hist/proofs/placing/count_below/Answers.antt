use Rattle.profil_hist.proofs.Words.{rules, nat_le, leb-false, leb-true, IsPartitionPoint-from_clause, IsPartitionedBy-leb, RangeStart}
use Rattle.profil_hist.proofs.placing.count_below.Goals as goal

pub returns-clause-point : goal.returns-clause-point
returns-clause-point c =
    let point = IsPartitionPoint-from_clause (λ (y : RangeStart). nat_le y.start c.args.pc) c.args.order.now c.partition_point.result c.partition_point.ensures.partitioned (IsPartitionedBy-leb (λ (y : RangeStart). y.start) c.args.order.now c.args.pc c.requires) (λ a r f k. search rules) in
    (λ k d low high. leb-true _ _ (point.0 k d low high), λ k d low high. leb-false _ _ (point.1 k d low high))
