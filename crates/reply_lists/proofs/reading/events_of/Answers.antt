use Rattle.std.proofs.Common.{rules, arith, ◌∙◌, ◌++◌, ◌∷◌, [], ap, length, length-append}
use Rattle.reply_lists.proofs.PartLemmas.{part-more-got}
use Rattle.reply_lists.proofs.reading.events_of.Goals as goal

pub loop-i-preserved : goal.loop-i-preserved
loop-i-preserved c =
    record {
      len = omega (arith, ap length c.push.ensures.pushed, length-append c.loop-i.events (c.at.result ∷ []), c.loop-i.invariant.len);
      events = c.push.ensures.pushed ∙ (ap (λ v. v ++ c.at.result ∷ []) c.loop-i.invariant.events ∙ part-more-got c.args.all.now c.args.span.from c.loop-i.i c.at.result (search rules) c.at.ensures.event);
    }
