use Rattle.tool_output.proofs.Words.{◌≡◌, ◌∙◌, ◌++◌, ◌∷◌, [], w64, arith, ap, sym, length, length-set, rules, take, take_all, take_at, take_more_set}
use Rattle.std.proofs.lemmas.Int.{to_z-of_z}
use Rattle.tool_output.proofs.replies.values.listed.Goals as goal

pub loop-i-preserved : goal.loop-i-preserved
loop-i-preserved c =
    let old = c.loop-i.invariant in
    let x = c.at.result in
    record {
      size = length-set _ _ _ ∙ old.size;
      same = rw (to_z-of_z w64 x (search rules))
          (take_more_set c.loop-i.items c.loop-i.i x (omega (arith, old.size, c.loop-i-test.true, c.len-i-end.ensures.length, c.len-i-end.ensures.short))
          ∙ (ap (λ xs. xs ++ x ∷ []) old.same ∙ sym (take_at c.args.values.now c.loop-i.i x c.at.ensures.item)));
    }

pub returns : goal.returns
returns c =
    let values = c.args.values.now in
    let whole : c.loop-i.i ≡ length values = omega (arith, c.loop-i-test.false, c.loop-i.auto.i-end, c.len-i-end.ensures.length) in
    ap (λ k. take k c.loop-i.items) (sym whole) ∙ (c.loop-i.invariant.same ∙ take_all c.loop-i.i values (omega (arith, whole)))
