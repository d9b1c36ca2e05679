use Rattle.name_encoder.proofs.Words.{◌≡◌, ◌∙◌, Some, None, sym, ap, rules, component_text, event_text, found_text, parts_split}
use Rattle.std.specs.Prelude.{option_map}
use Rattle.name_encoder.proofs.Searching.{place-has, place-lacks}
use Rattle.name_encoder.proofs.found.found_at.Goals as goal

pub returns-in_err-row : goal.returns-in_err-row
returns-in_err-row c =
    let none : c.from_residual-in_err-row.result ≡ None = search rules in
    ap (option_map found_text) none
    ∙ sym (place-lacks (parts_split c.args.parts.now) c.args.tables.now c.args.comp (component_text c.in_ok-component.component.now) c.args.name.now
    (sym c.in_ok-component.ensures) (sym c.is_meant.ensures ∙ c.if-not-is_meant.false) c.requires c.in_err-row.ensures)

pub returns-in_err-event : goal.returns-in_err-event
returns-in_err-event c =
    let none : c.from_residual-in_err-event.result ≡ None = search rules in
    ap (option_map found_text) none
    ∙ sym (place-has (parts_split c.args.parts.now) c.args.tables.now c.args.comp c.in_ok-row.row
    (component_text c.in_ok-component.component.now) c.args.name.now None (sym c.in_ok-component.ensures)
    (sym c.is_meant.ensures ∙ c.if-not-is_meant.false) c.requires c.in_ok-row.ensures c.in_err-event.ensures)

pub returns : goal.returns
returns c =
    sym (place-has (parts_split c.args.parts.now) c.args.tables.now c.args.comp c.in_ok-row.row
    (component_text c.in_ok-component.component.now) c.args.name.now (Some (event_text c.in_ok-event.event.now)) (sym c.in_ok-component.ensures)
    (sym c.is_meant.ensures ∙ c.if-not-is_meant.false) c.requires c.in_ok-row.ensures c.in_ok-event.ensures)
