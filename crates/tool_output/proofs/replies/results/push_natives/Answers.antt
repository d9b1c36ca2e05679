use Rattle.name_encoder.specs.Canonical.{canonical}
use Rattle.tool_output.proofs.Texts.{item_pushed}
use Rattle.tool_output.proofs.replies.results.push_natives.Goals as goal

pub loop-i-preserved : goal.loop-i-preserved
loop-i-preserved c = item_pushed (canonical c.args.catalog.now.tables) c.args.natives.now c.loop-i.i c.at.result _ _ _ c.at.ensures.item c.loop-i.invariant c.in_ok-push_event.ensures
