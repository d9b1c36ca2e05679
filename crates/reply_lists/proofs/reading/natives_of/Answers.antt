use Rattle.std.proofs.Common.{rules, arith, ◌∙◌, ◌++◌, ◌∷◌, [], ap, ap₂, length, length-append}
use Rattle.reply_lists.specs.Bodies.{native_in}
use Rattle.reply_lists.proofs.PartLemmas.{part-more-map}
use Rattle.reply_lists.proofs.reading.natives_of.Goals as goal

pub loop-i-preserved : goal.loop-i-preserved
loop-i-preserved c =
    record {
      len = omega (arith, ap length c.push.ensures.pushed, length-append c.loop-i.natives (c.native_of.result ∷ []), c.loop-i.invariant.len);
      natives = c.push.ensures.pushed ∙ (ap₂ (λ v w. v ++ w ∷ []) c.loop-i.invariant.natives c.native_of.ensures ∙ part-more-map native_in c.args.all.now c.args.span.from c.loop-i.i c.at.result (search rules) c.at.ensures.event);
    }
