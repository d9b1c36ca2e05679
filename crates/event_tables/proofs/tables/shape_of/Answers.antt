use Rattle.event_tables.proofs.Words.{List, map, subst, sym, arith, length-map, AllByRecursion, IsComponent, IsCounter, component_text, counter_text}
use Rattle.event_tables.proofs.Words.{Component, Counter}
use Rattle.event_tables.proofs.Items.{all-get}
use Rattle.event_tables.proofs.tables.shape_of.Goals as goal

pub comp_shape-requires-clause-few : goal.comp_shape-requires-clause-few
comp_shape-requires-clause-few c =
    let k = subst (λ (x : Component). IsComponent (component_text x)) (sym c.c-item.is)
    (all-get IsComponent component_text c.args.components.now c.loop-c.c-index c.c-item.result c.requires.each c.loop-c-test.true) in
    omega (arith, k.few_counters, length-map c.c-item.result.counters.items counter_text)

pub comp_shape-requires-clause-counters : goal.comp_shape-requires-clause-counters
comp_shape-requires-clause-counters c =
    let k = subst (λ (x : Component). IsComponent (component_text x)) (sym c.c-item.is)
    (all-get IsComponent component_text c.args.components.now c.loop-c.c-index c.c-item.result c.requires.each c.loop-c-test.true) in
    subst (λ (xs : List Counter). AllByRecursion IsCounter (map counter_text xs)) (sym c.as_slice.ensures.value) k.counters
