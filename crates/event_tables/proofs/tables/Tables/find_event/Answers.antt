use Rattle.event_tables.proofs.Words.{◌≡◌, ◌∙◌, List, Some, None, sym, ap, slice_get-map, slice_get_past, get_by_text, option_and_then, option_map}
use Rattle.event_tables.proofs.Words.{slice_get, all_at, IsIndexed, ComponentText, row_of_lower, component_text}
use Rattle.event_tables.proofs.Items.{item-some}
use Rattle.event_tables.proofs.tables.Tables.find_event.Goals as goal

pub returns-in-Some : goal.returns-in-Some
returns-in-Some c =
    let at : slice_get c.self.inside.components.items c.args.comp ≡ Some c.in-Some.c.now = rw c.as_slice.ensures.value at
    (item-some c.as_slice.result.now c.args.comp c.in-Some.c.now c.in-Some.ensures.lookup.1 c.in-Some.ensures.lookup.3.0) in
    let indexed = all_at IsIndexed c.self.inside.components.items c.args.comp c.in-Some.c.now c.self.invariant.indexed at in
    let view : slice_get c.args.self.now c.args.comp ≡ Some (component_text c.in-Some.c.now) =
    sym (ap (λ (t : List ComponentText). slice_get t c.args.comp) c.self.view_is) ∙ slice_get-map component_text c.self.inside.components.items c.args.comp ∙ ap (option_map component_text) at in
    c.copied.ensures ∙ c.get-in-Some.ensures.value ∙ ap (get_by_text c.in-Some.c.now.rows) c.as_str.ensures ∙ indexed.rows c.args.name.now
    ∙ sym (ap (option_and_then (λ k. row_of_lower k.events c.args.name.now)) view)

pub returns-in-None : goal.returns-in-None
returns-in-None c =
    let at : slice_get c.self.inside.components.items c.args.comp ≡ None = rw c.as_slice.ensures.value at (slice_get_past c.as_slice.result.now c.args.comp c.in-None.ensures.lookup.3) in
    let view : slice_get c.args.self.now c.args.comp ≡ None =
    sym (ap (λ (t : List ComponentText). slice_get t c.args.comp) c.self.view_is) ∙ slice_get-map component_text c.self.inside.components.items c.args.comp ∙ ap (option_map component_text) at in
    sym (ap (option_and_then (λ k. row_of_lower k.events c.args.name.now)) view)
