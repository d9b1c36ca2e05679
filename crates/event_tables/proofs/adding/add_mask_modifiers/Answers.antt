use Rattle.event_tables.proofs.Words.{◌≡◌, ◌∙◌, ◌+◌, ◌-◌, List, length, map, refl, ap, arith, length-map, get_by_text, string_bytes, on_last_mask}
use Rattle.event_tables.proofs.Words.{ComponentText, EventText, MaskText, fixing, counter_text, event_text, EventRow}
use Rattle.event_tables.proofs.Growing.{on_last-set}
use Rattle.event_tables.proofs.Indexing.{indexed-changed}
use Rattle.event_tables.proofs.adding.add_mask_modifiers.Goals as goal

pub returns : goal.returns
returns c =
    let old = c.args.component.now in
    let x = c.index_mut.result.now in
    let change : EventText → EventText = on_last_mask (fixing c.args.fixed) in
    let masks = c.fix_mask.ensures in
    let at_last : (c.len-last.result - 1) + 1 ≡ length old.events.items = omega (arith, c.requires.filled.0, length-map old.events.items event_text) in
    let here = ap (λ (ms : List MaskText). let r : EventText = record { name = string_bytes x.name; select = x.select; allowed = x.allowed; text = string_bytes x.text; masks = ms } in r) masks in
    let events = on_last-set event_text change old.events.items (c.len-last.result - 1) _ x at_last (here ∙ ap (λ (e : EventRow). change (event_text e)) c.index_mut.ensures.value) in
    record {
      modifiers = ap (λ (es : List EventText). let r : ComponentText = record { name = string_bytes old.name; pmu = string_bytes old.pmu; counters = map counter_text old.counters.items; events = es } in r) events;
      indexed = record { rows = indexed-changed change (map event_text old.events.items) _ (get_by_text old.rows) (λ e. refl) events c.requires.indexed.rows };
    }
