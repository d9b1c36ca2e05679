use Rattle.component_table.proofs.Words.{rules, ◌∙◌, sym, map-id, YieldsList-from_vec, YieldsList-end}
use Rattle.component_table.proofs.KeptEvents.{names-out, rows-out}
use Rattle.component_table.proofs.catalog.taken_apart.Goals as goal

pub returns-clause-entries : goal.returns-clause-entries
returns-clause-entries c =
    let end =
    YieldsList-end (YieldsList-from_vec {s = c.into_iter-event-iterator.result} c.into_parts-presets.result.1.items (search rules) (search rules))
    c.loop-event.yielded c.loop-event.event-iterator c.loop-event.yielded_by c.next.result c.next.new.self c.in-None.is c.next.ensures.steps in
    rows-out c.args.x c.into_rows-entries.result.items _ c.into_parts-presets.result.1.items c.loop-event.yielded (c.into_rows-entries.ensures.rows ∙ search rules) c.into_parts-presets.ensures.events
    (sym (map-id c.loop-event.yielded) ∙ end.0) c.loop-event.invariant.entries

pub returns-clause-names : goal.returns-clause-names
returns-clause-names c =
    let end =
    YieldsList-end (YieldsList-from_vec {s = c.into_iter-event-iterator.result} c.into_parts-presets.result.1.items (search rules) (search rules))
    c.loop-event.yielded c.loop-event.event-iterator c.loop-event.yielded_by c.next.result c.next.new.self c.in-None.is c.next.ensures.steps in
    names-out c.args.x _ c.into_parts-presets.result.1.items c.loop-event.yielded c.into_parts-presets.ensures.events (sym (map-id c.loop-event.yielded) ∙ end.0) c.loop-event.invariant.names
