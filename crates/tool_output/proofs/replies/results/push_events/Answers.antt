use Rattle.component_table.specs.EventNames.{event_name}
use Rattle.tool_output.proofs.Texts.{item_pushed}
use Rattle.tool_output.proofs.replies.results.push_events.Goals as goal

pub loop-i-preserved : goal.loop-i-preserved
loop-i-preserved c = item_pushed (event_name c.args.catalog.now) c.args.events.now c.loop-i.i c.at.result _ _ _ c.at.ensures.item c.loop-i.invariant c.in_ok-push_event.ensures
