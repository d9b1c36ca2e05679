use Rattle.event_tables.proofs.Words.{◌≡◌, ◌∙◌, ◌+◌, ◌-◌, ◌∷◌, [], List, length, map, ap, arith, map-append, string_bytes, ComponentText, EventText}
use Rattle.event_tables.proofs.Words.{MaskText, with_inner_mask, with_mask, component_text, counter_text, event_text, mask_text, EventRow}
use Rattle.event_tables.proofs.Words.{get_by_text}
use Rattle.event_tables.proofs.Growing.{on_last-set}
use Rattle.event_tables.proofs.Indexing.{indexed-masked}
use Rattle.event_tables.proofs.adding.add_mask.Goals as goal

pub returns : goal.returns
returns c =
    let old = c.args.component.now in
    let x = c.index_mut.result.now in
    let m = mask_text c.in_ok-mask.mask in
    let at_last : (c.len-last.result - 1) + 1 ≡ length old.events.items = omega arith in
    let masks = ap (map mask_text) c.in_ok-push.ensures.items ∙ map-append mask_text x.masks.items (c.in_ok-mask.mask ∷ []) in
    let here = ap (λ (ms : List MaskText). let r : EventText = record { name = string_bytes x.name; select = x.select; allowed = x.allowed; text = string_bytes x.text; masks = ms } in r) masks in
    let events = on_last-set event_text (with_mask m) old.events.items (c.len-last.result - 1) _ x at_last (here ∙ ap (λ (e : EventRow). with_mask m (event_text e)) c.index_mut.ensures.value) in
    record {
      mask = ap (λ (es : List EventText). let r : ComponentText = record { name = string_bytes old.name; pmu = string_bytes old.pmu; counters = map counter_text old.counters.items; events = es } in r) events
          ∙ ap (λ (t : MaskText). with_inner_mask t (component_text old)) c.in_ok-mask.ensures;
      indexed = record { rows = indexed-masked m (map event_text old.events.items) _ (get_by_text old.rows) events c.requires.indexed.rows };
    }
