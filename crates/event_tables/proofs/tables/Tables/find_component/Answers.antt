use Rattle.event_tables.proofs.Words.{◌∙◌, ◌≤◌, length, map, sym, arith, ComponentText, same_name, component_text}
use Rattle.event_tables.proofs.Searches.{position_from-lt}
use Rattle.event_tables.proofs.tables.Tables.find_component.Goals as goal

pub overflow_cast-result : goal.overflow_cast-result
overflow_cast-result c =
    let lt = position_from-lt (λ (k : ComponentText). same_name k.name c.args.name.now) 0 _ c.in-Some.i (sym c.place_of_name.ensures ∙ c.in-Some.is) in
    let few : length (map component_text c.as_slice.result.now) ≤ 16 = rw c.as_slice.ensures.value c.self.invariant.tables.few in
    omega (arith, lt, few)
