use Rattle.component_table.proofs.Words.{◌∙◌, ◌≡◌, ap, subst, sym, map, IsTable, TableView, EventView, IsExtended, event_view, events_from, PRESETS}
use Rattle.std.specs.Prelude.{List}
use Rattle.component_table.proofs.KeptEvents.{kept-extended}
use Rattle.component_table.proofs.catalog.Catalog.only_available.Goals as goal

pub new-requires : goal.new-requires
new-requires c =
    let book = c.self.inside.book in
    let cpu : c.available_presets-presets.result.cpu ≡ c.args.x.presets.cpu =
    ap (λ (t : TableView). t.cpu) c.available_presets-presets.ensures ∙ ap (λ (t : TableView). t.cpu) c.into_parts-presets.ensures.presets in
    let events : map event_view c.in_ok-events.events.items ≡ events_from book PRESETS c.args.x.events =
    c.in_ok-events.ensures ∙ ap (events_from book PRESETS) c.into_parts-presets.ensures.events in
    subst (λ (es : List EventView). IsExtended (record { presets = c.available_presets-presets.result; events = es })) (sym events)
    (kept-extended book c.args.x c.available_presets-presets.result c.into_parts-presets.ensures.kept (subst IsTable c.presets.view_is c.presets.invariant) cpu)
