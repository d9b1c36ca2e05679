use Rattle.component_table.proofs.Words.{◌∙◌, ◌∷◌, ◌++◌, [], ap, ap₂, arith, sym, map, length-map, length_push, map-append, events_from, kept_if}
use Rattle.component_table.proofs.Words.{event_view, PRESETS}
use Rattle.component_table.proofs.KeptEvents.{kept-more, none}
use Rattle.component_table.proofs.catalog.available_events.Goals as goal

pub loop-event-init : goal.loop-event-init
loop-event-init c = record { row = c.preset_count-row.ensures.count; kept = ap (map event_view) c.new-kept.ensures.items ∙ sym (none c.args.book.now PRESETS) }

pub loop-event-preserved : goal.loop-event-preserved
loop-event-preserved c =
    let events = c.loop-event.yielded in
    let event = event_view c.in-Some.event in
    record {
      row = omega (arith, c.loop-event.invariant.row, length_push events c.in-Some.event);
      kept =
          c.in_ok-keep_if.ensures
          ∙ ap₂ (λ done available. done ++ kept_if available event) c.loop-event.invariant.kept c.is_available.ensures
          ∙ sym (kept-more c.args.book.now PRESETS (map event_view events) event c.loop-event.row (omega (arith, c.loop-event.invariant.row, length-map events event_view)))
          ∙ ap (events_from c.args.book.now PRESETS) (sym (map-append event_view events (c.in-Some.event ∷ [])));
    }
