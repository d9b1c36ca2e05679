use Rattle.std.proofs.Common.{◌≡◌}
use Rattle.user_events.proofs.WrittenRows.{text_to}
use Rattle.user_events.proofs.writing.write_extended.Given as goal

abbrev pub invariant-loop-event : goal.invariant-loop-event
invariant-loop-event l = l.text.items ≡ text_to l.x.presets l.events l.event-index
