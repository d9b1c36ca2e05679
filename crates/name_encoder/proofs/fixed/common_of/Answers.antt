use Rattle.name_encoder.proofs.Words.{◌≡◌, ◌∙◌, ◌+◌, ℕ, drop, false, get_or, map, sym, ap, if◌then◌else◌, mask_text, met}
use Rattle.name_encoder.specs.Names as Names
use Rattle.name_encoder.proofs.Fixing.{common-done, common-more}
use Rattle.name_encoder.proofs.fixed.common_of.Goals as goal

pub loop-i-preserved : goal.loop-i-preserved
loop-i-preserved c =
    let flags = c.args.flags.now in
    let xs = c.args.masks.now in
    let i = c.loop-i.i in
    let x = c.index-masks-i.result in
    let step : c.met_if-common.result ≡ (if get_or flags i false then met (mask_text (get_or xs i x)).counters c.loop-i.common else c.loop-i.common) = c.met_if-common.ensures in
    c.loop-i.invariant ∙ common-more mask_text flags xs c.loop-i.common i x c.loop-i-test.true c.requires
    ∙ ap (λ (a : ℕ). Names.common_of a (drop (i + 1) flags) (map mask_text (drop (i + 1) xs))) (sym step)

pub returns : goal.returns
returns c = sym (c.loop-i.invariant ∙ common-done mask_text c.args.flags.now c.args.masks.now c.loop-i.common c.loop-i.i c.loop-i-test.false)
