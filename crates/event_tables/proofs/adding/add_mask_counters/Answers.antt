use Rattle.event_tables.proofs.Words.{◌≡◌, ◌∙◌, ◌+◌, ◌-◌, ℕ, List, length, map, refl, ap, rules, arith, length-map, get_by_text, string_bytes}
use Rattle.event_tables.proofs.Words.{words_of, on_last_mask, ComponentText, EventText, MaskText, bits_of, on_last, restricted, counter_text}
use Rattle.event_tables.proofs.Words.{event_text, mask_text, EventRow}
use Rattle.event_tables.proofs.Growing.{on_last-set}
use Rattle.event_tables.proofs.Indexing.{indexed-changed}
use Rattle.event_tables.proofs.adding.add_mask_counters.Goals as goal

pub returns : goal.returns
returns c =
    let old = c.args.component.now in
    let x = c.index_mut.result.now in
    let change : EventText → EventText = on_last_mask (restricted (bits_of (map counter_text old.counters.items) (words_of c.args.names.now))) in
    let bits : c.bits_of-bits.result ≡ bits_of (map counter_text old.counters.items) (words_of c.args.names.now) = search rules in
    let masks = c.restrict_mask.ensures ∙ ap (λ (b : ℕ). on_last (restricted b) (map mask_text x.masks.items)) bits in
    let at_last : (c.len-last.result - 1) + 1 ≡ length old.events.items = omega (arith, c.requires.filled.0, length-map old.events.items event_text) in
    let here = ap (λ (ms : List MaskText). let r : EventText = record { name = string_bytes x.name; select = x.select; allowed = x.allowed; text = string_bytes x.text; masks = ms } in r) masks in
    let events = on_last-set event_text change old.events.items (c.len-last.result - 1) _ x at_last (here ∙ ap (λ (e : EventRow). change (event_text e)) c.index_mut.ensures.value) in
    record {
      counters = ap (λ (es : List EventText). let r : ComponentText = record { name = string_bytes old.name; pmu = string_bytes old.pmu; counters = map counter_text old.counters.items; events = es } in r) events;
      indexed = record { rows = indexed-changed change (map event_text old.events.items) _ (get_by_text old.rows) (λ e. refl) events c.requires.indexed.rows };
    }
