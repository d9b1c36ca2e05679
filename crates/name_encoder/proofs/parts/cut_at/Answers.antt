use Rattle.name_encoder.proofs.Words.{◌∙◌, length, drop, sym, rest-whole}
use Rattle.name_encoder.proofs.Cuts.{with_front-none, cut-here, cut-later, cut-never}
use Rattle.name_encoder.proofs.parts.cut_at.Goals as goal

pub loop-i-init : goal.loop-i-init
loop-i-init c = sym (with_front-none _)

pub returns-then-starts_with : goal.returns-then-starts_with
returns-then-starts_with c =
    let t = c.args.text.now in
    let m = c.args.mark.now in
    let i = c.loop-i.i in
    rw (rest-whole t i, rest-whole (drop i t) (length m))
    (sym (c.loop-i.invariant ∙ cut-here m t i c.loop-i-test.true (sym c.starts_with.ensures.value ∙ c.if-starts_with.true)))

pub loop-i-preserved : goal.loop-i-preserved
loop-i-preserved c = c.loop-i.invariant ∙ cut-later c.args.mark.now c.args.text.now c.loop-i.i c.loop-i-test.true (sym c.starts_with.ensures.value ∙ c.if-starts_with.false)

pub returns : goal.returns
returns c = sym (c.loop-i.invariant ∙ cut-never c.args.mark.now c.args.text.now c.loop-i.i c.loop-i-test.false)
