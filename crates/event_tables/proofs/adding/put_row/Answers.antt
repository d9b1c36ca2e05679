use Rattle.event_tables.proofs.Words.{◌∙◌, ◌-◌, ◌<◌, length, map, vec_len, refl, sym, ap, subst, arith, length-map, on_ok_weaker, row_line, grown}
use Rattle.event_tables.proofs.Words.{IsIndexed, IsComponent, component_text, counter_text, event_text, Component}
use Rattle.event_tables.proofs.Growing.{all-at, inner-row, inner-with, none-above, on_last-set, owner}
use Rattle.event_tables.proofs.Items.{all-item, all-set}
use Rattle.event_tables.proofs.adding.put_row.Goals as goal

pub grow-requires : goal.grow-requires
grow-requires c =
    let xs = c.args.components.now.items in
    let i = vec_len c.args.components.now - 1 in
    let x = c.in-Some.last.now in
    let some : 0 < length xs = omega (arith, c.in-Some.ensures.variant.0 refl) in
    let own = owner xs (row_line c.args.row) i x c.requires.faultless some (omega arith) c.in-Some.ensures.value in
    let kept = all-at IsComponent (map component_text xs) (component_text x) c.requires.kept.tables.each own.last in
    record {
      few_counters = omega (arith, kept.few_counters, length-map x.counters.items counter_text);
      few_events = omega (arith, kept.few_events, length-map x.events.items event_text);
      indexed = subst IsIndexed (sym c.in-Some.ensures.value) (all-item IsIndexed xs i x c.requires.kept.indexed (omega (arith, own.at_last)));
      owned = own.grows;
    }

pub returns-in-Some : goal.returns-in-Some
returns-in-Some c =
    let xs = c.args.components.now.items in
    let i = vec_len c.args.components.now - 1 in
    let x = c.in-Some.last.now in
    let line = row_line c.args.row in
    let some : 0 < length xs = omega (arith, c.in-Some.ensures.variant.0 refl) in
    let own = owner xs line i x c.requires.faultless some (omega arith) c.in-Some.ensures.value in
    let inner = inner-row c.args.row c.in_default.not-Component in
    let old = ap (λ (t : Component). grown line (component_text t)) c.in-Some.ensures.value in
    record {
      put = on_ok_weaker c.grow.result (λ g. on_last-set component_text (grown line) xs i c.grow.new.component x own.at_last (g ∙ old) ∙ sym (inner-with (map component_text xs) line inner)) c.grow.ensures.grown;
      indexed = on_ok_weaker c.grow.result (λ g. all-set IsIndexed xs i c.grow.new.component c.requires.kept.indexed g) c.grow.ensures.indexed;
    }

pub returns-in-None : goal.returns-in-None
returns-in-None c = record {
  put = none-above c.args.components.now.items (row_line c.args.row) (inner-row c.args.row c.in_default.not-Component) (λ some. cc (c.in-None.ensures.variant.1 (omega (arith, some))));
  indexed = c.requires.kept.indexed;
}
