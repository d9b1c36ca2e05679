use Rattle.papi_base.specs.declared.native.EventRef.TheVariants as event
use Rattle.reply_lists.proofs.PartLemmas.{append_more_map}
use Rattle.reply_lists.proofs.keeping.keep_natives.Goals as goal

pub loop-i-preserved : goal.loop-i-preserved
loop-i-preserved c = append_more_map (λ n. event.Native n) _ _ _ _ _ _ c.loop-i.invariant c.at.ensures.item c.in_ok-push.ensures.ok
