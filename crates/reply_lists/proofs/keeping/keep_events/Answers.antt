use Rattle.reply_lists.proofs.PartLemmas.{append_more}
use Rattle.reply_lists.proofs.keeping.keep_events.Goals as goal

pub loop-i-preserved : goal.loop-i-preserved
loop-i-preserved c = append_more _ _ _ _ _ _ c.loop-i.invariant c.at.ensures.item c.in_ok-push.ensures.ok
