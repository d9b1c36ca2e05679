use Rattle.event_tables.proofs.Words.{◌≡◌, ◌∙◌, ◌∷◌, ◌++◌, [], map, length, refl, ap, rules, arith, length-map, map-append, get_by_text, words_of}
use Rattle.event_tables.proofs.Words.{EventText, bits_of, event_row, counter_text, event_text}
use Rattle.event_tables.proofs.Indexing.{indexed-more}
use Rattle.event_tables.proofs.adding.add_event.Goals as goal

abbrev new_row : goal.In_ok-push → EventText
new_row c = event_row (map counter_text c.args.component.now.counters.items) c.args.name.now c.args.select (words_of c.args.names.now) c.args.text.now []

events_more : (c : goal.In_ok-push) → map event_text c.push.new.self.items ≡ map event_text c.args.component.now.events.items ++ new_row c ∷ []
events_more c =
    let old = c.args.component.now in
    let allowed : c.bits_of-allowed.result ≡ bits_of (map counter_text old.counters.items) (words_of c.args.names.now) = search rules in
    let here : event_text c.in_ok-event.event ≡ new_row c = rw allowed at c.in_ok-event.ensures in
    ap (map event_text) c.in_ok-push.ensures.items ∙ map-append event_text old.events.items (c.in_ok-event.event ∷ [])
    ∙ ap (λ (e : EventText). map event_text old.events.items ++ e ∷ []) here

pub returns-clause-indexed : goal.returns-clause-indexed
returns-clause-indexed c =
    let old = c.args.component.now in
    let count : c.len-row.result ≡ length (map event_text old.events.items) = omega (arith, c.len-row.ensures, length-map old.events.items event_text) in
    record {
      rows = indexed-more (map event_text old.events.items) (map event_text c.push.new.self.items) (new_row c) c.len-row.result c.args.name.now
          (get_by_text old.rows) (get_by_text c.note_row.new.rows) (events_more c) count refl
          c.requires.indexed.rows c.requires.fresh c.in_ok-note_row.ensures;
    }
