use Rattle.name_encoder.proofs.Words.{◌≡◌, ◌∙◌, ◌+◌, drop, false, get_or, map, sym, ap, mask_text, FixedMods, both_fixed, fixed_if}
use Rattle.name_encoder.specs.Names as Names
use Rattle.name_encoder.proofs.Fixing.{fixed-done, fixed-more}
use Rattle.name_encoder.proofs.fixed.fixed_of.Goals as goal

pub loop-i-preserved : goal.loop-i-preserved
loop-i-preserved c =
    let flags = c.args.flags.now in
    let xs = c.args.masks.now in
    let i = c.loop-i.i in
    let x = c.index-masks-i.result in
    let step : c.both_fixed-fixed.result ≡ both_fixed c.loop-i.fixed (fixed_if (get_or flags i false) (mask_text (get_or xs i x)).fixed) =
    c.both_fixed-fixed.ensures ∙ ap (both_fixed c.loop-i.fixed) c.fixed_if.ensures in
    c.loop-i.invariant ∙ fixed-more mask_text flags xs c.loop-i.fixed i x c.loop-i-test.true c.requires
    ∙ ap (λ (f : FixedMods). Names.fixed_of f (drop (i + 1) flags) (map mask_text (drop (i + 1) xs))) (sym step)

pub returns : goal.returns
returns c = sym (c.loop-i.invariant ∙ fixed-done mask_text c.args.flags.now c.args.masks.now c.loop-i.fixed c.loop-i.i c.loop-i-test.false)
