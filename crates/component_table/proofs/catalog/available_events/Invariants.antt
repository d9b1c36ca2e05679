use Rattle.component_table.proofs.Words.{◌≡◌, ◌+◌, length, map, events_from, event_view, PRESETS}
use Rattle.component_table.proofs.catalog.available_events.Given as goal

abbrev pub invariant-loop-event : goal.invariant-loop-event
invariant-loop-event l = record {
  row : l.row ≡ PRESETS + length l.yielded;
  kept : map event_view l.kept.items ≡ events_from l.book PRESETS (map event_view l.yielded);
}
