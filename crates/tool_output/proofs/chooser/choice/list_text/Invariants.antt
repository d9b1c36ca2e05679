use Rattle.tool_output.proofs.Words.{◌≡◌, string_bytes, take, names_text}
use Rattle.tool_output.proofs.chooser.choice.list_text.Given as goal

abbrev pub invariant-loop-event : goal.invariant-loop-event
invariant-loop-event l = string_bytes l.text ≡ names_text l.catalog (take l.event-index l.events)
