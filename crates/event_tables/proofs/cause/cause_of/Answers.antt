use Rattle.event_tables.proofs.Words.{◌∙◌, Some, None, map, refl, sym, arith, length-map, IsIndexed, IsComponent, cause_in, component_text}
use Rattle.event_tables.proofs.Words.{counter_text}
use Rattle.event_tables.proofs.Growing.{all-at, cause-alone, cause-inner, last_of-map}
use Rattle.event_tables.proofs.cause.cause_of.Goals as goal

pub inner_cause-requires : goal.inner_cause-requires
inner_cause-requires c =
    let xs = c.args.above.now in
    let x = c.in-Some.component.now in
    let kept = all-at IsComponent (map component_text xs) (component_text x) c.requires.tables.each (last_of-map component_text xs (Some x) c.in-Some.ensures.value) in
    record {
      few = omega (arith, kept.few_counters, length-map x.counters.items counter_text);
      indexed = all-at IsIndexed xs x c.requires.indexed (sym c.in-Some.ensures.value);
      line = c.requires.line;
    }

pub returns-in-Skipped : goal.returns-in-Skipped
unfolding cause_in
returns-in-Skipped c = rw c.in-Skipped.is refl

pub returns-in-Bad : goal.returns-in-Bad
unfolding cause_in
returns-in-Bad c = rw c.in-Bad.is refl

pub returns-in-Component : goal.returns-in-Component
unfolding cause_in
returns-in-Component c = rw c.in-Component.is c.component_cause.ensures

pub returns-in-Some : goal.returns-in-Some
returns-in-Some c =
    let last = last_of-map component_text c.args.above.now (Some c.in-Some.component.now) c.in-Some.ensures.value in
    c.inner_cause.ensures ∙ cause-inner (map component_text c.args.above.now) c.args.row.now (component_text c.in-Some.component.now)
    c.in_default.not-Skipped c.in_default.not-Bad c.in_default.not-Component last

pub returns-in-None : goal.returns-in-None
returns-in-None c =
    let last = last_of-map component_text c.args.above.now None c.in-None.ensures.value in
    cause-alone (map component_text c.args.above.now) c.args.row.now c.in_default.not-Skipped c.in_default.not-Bad c.in_default.not-Component last
