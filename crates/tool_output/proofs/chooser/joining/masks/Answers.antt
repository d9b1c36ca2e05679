use Rattle.tool_output.proofs.Words.{◌∙◌, ◌++◌, ◌∷◌, [], List, ℕ, ap, sym, arith, length-set, take_more_set, masks_at}
use Rattle.tool_output.proofs.chooser.joining.masks.Goals as goal

pub loop-i-preserved : goal.loop-i-preserved
loop-i-preserved c =
    let i = c.loop-i.i in
    let n = c.at.result in
    record {
      long = length-set c.loop-i.masks i n.allowed ∙ c.loop-i.invariant.long;
      so_far =
          take_more_set c.loop-i.masks i n.allowed (omega (arith, c.loop-i.invariant.long, c.loop-i-test.true, c.len-i-end.ensures.length, c.len-i-end.ensures.short))
          ∙ ap (λ (xs : List ℕ). xs ++ n.allowed ∷ []) c.loop-i.invariant.so_far
          ∙ sym (masks_at c.args.natives.now i n c.at.ensures.item);
    }
