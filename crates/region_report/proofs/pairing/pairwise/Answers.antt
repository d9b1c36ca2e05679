use Rattle.region_report.proofs.Words.{[], ◌∷◌, ◌+◌, ◌∙◌, ap, ap₂, arith, length, length-append, min, rules, w64, to_z-of_z}
use Rattle.region_report.proofs.Counted.{pair_more, pairs_all}
use Rattle.region_report.proofs.pairing.pairwise.Goals as goal

pub loop-i-preserved : goal.loop-i-preserved
loop-i-preserved g c =
    let makes = g.P.Pairing.makes in
    record {
      so_far =
          pair_more makes c.args.first.now c.args.second.now _ _ _ c.loop-i.i c.at.result c.at-in-loop-i.result _ c.at.ensures.item c.at-in-loop-i.ensures.item
          (to_z-of_z w64 c.make.result (search rules) ∙ c.make.ensures ∙ ap₂ makes (to_z-of_z w64 c.at.result (search rules)) (to_z-of_z w64 c.at-in-loop-i.result (search rules))) c.push.ensures.pushed c.loop-i.invariant.so_far;
      long = ap (λ vs. length vs) c.push.ensures.pushed ∙ length-append c.loop-i.values (_ ∷ []) ∙ ap (λ n. n + 1) c.loop-i.invariant.long;
    }

pub returns : goal.returns
returns g c =
    pairs_all g.P.Pairing.makes c.args.first.now c.args.second.now _ _ c.loop-i.i c.min-i-end.result (c.min-i-end.ensures ∙ ap₂ (λ m n. min m n) c.len.ensures.length c.len-2.ensures.length) (omega (arith, c.loop-i-test.false))
    c.loop-i.invariant.so_far
