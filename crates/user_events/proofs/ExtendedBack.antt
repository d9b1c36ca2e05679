-- A written table reads back, also if the cpu's name can stand in no field: then no row is written, and none is read.
use Rattle.user_events.proofs.Words.{◌≡◌, ◌∙◌, ◌+◌, ◌≤◌, ◌∷◌, ◌++◌, Bool, true, false, List, [], length, map, refl, sym, ap, ap₂, arith, None}
use Rattle.user_events.proofs.Words.{length-map, rows_text, first_fault, Text, Derivation, Line, cpu, event, gives, preset, presets, read_from}
use Rattle.user_events.proofs.Words.{is_field, symbols, rows_of_entries, table_text, Entry, both, first-stands, presets-back, rows_back, table-taken}
use Rattle.user_events.proofs.Words.{written-back, Says, Spares, bad-faultless, no-entries, field-good, cpu-begins, lines-plain, event_judged}
use Rattle.user_events.proofs.Words.{infix_entry, EventView, ExtendedView, IsExtended, line_of, lines_of, event_read, events_of, events_read}
use Rattle.user_events.proofs.Words.{extended_fault, extended_in, line_cause, ReadsBack, event_rows, extended_text, MOST_USER_EVENTS}
use Rattle.user_events.proofs.EventLines.{event_row, plain-cpu, written-lines}
use Rattle.user_events.proofs.EventsBack.{events-are, events-back, named, no-fault}
use Rattle.user_events.proofs.Taking.{event-line-kept, no-events}

-- what a caller reads of some rows
abbrev read : Text → List Line → ExtendedView
read name lines = record { presets = record { cpu = name; rows = presets event_judged name lines }; events = events_of (events_read name lines) }

abbrev view : Text → List Entry → List EventView → ExtendedView
view name rows events = record { presets = record { cpu = name; rows = rows }; events = events }

-- ---- a cpu whose name can stand in a field

first-fault : (name : Text) (rest : List Line) → first_fault (line_cause name) (cpu name ∷ []) rest ≡ None → first_fault (line_cause name) [] (cpu name ∷ rest) ≡ None
unfolding first_fault
first-fault name rest h = h

none-above : (name : Text) → events_read name (cpu name ∷ []) ≡ []
unfolding read_from
none-above name = refl

good-fault : (x : ExtendedView) → IsExtended x → is_field x.presets.cpu ≡ true → first_fault (line_cause x.presets.cpu) [] (lines_of (extended_text x)) ≡ None
good-fault x h e =
    let n = x.presets.cpu in
    let rs = rows_back symbols x.presets.rows in
    let es = map event_row x.events in
    let few : length (events_read n (cpu n ∷ [])) + length es ≤ MOST_USER_EVENTS = omega (arith, ap length (none-above n), length-map x.events event_row, h.few) in
    ap (first_fault (line_cause n) []) (written-lines x (field-good n e) h.table.each h.each)
    ∙ first-fault n (both rs es) (no-fault n (cpu n ∷ []) rs es (first-stands n) (table-taken event_judged (written-back infix_entry) x.presets.rows h.table.each) (named x.events h.each) few)

events-first : (name : Text) (rs es : List Derivation) → events_read name (cpu name ∷ both rs es) ≡ read_from (event_read name) (cpu name ∷ []) (both rs es)
unfolding read_from
events-first name rs es = refl

good-back : (x : ExtendedView) → IsExtended x → is_field x.presets.cpu ≡ true → read x.presets.cpu (lines_of (extended_text x)) ≡ x
good-back x h e =
    let n = x.presets.cpu in
    let rs = rows_back symbols x.presets.rows in
    let es = map event_row x.events in
    ap (read n) (written-lines x (field-good n e) h.table.each h.each)
    ∙ ap₂ (view n) (presets-back event_judged (written-back infix_entry) n x.presets.rows es h.table.all h.table.each)
    (ap events_of (events-first n rs es ∙ events-back n (cpu n ∷ []) rs es (first-stands n)) ∙ events-are x.events h.distinct h.each)

-- ---- a cpu whose name can stand in no field

spares : (name : Text) → Spares name (line_cause name)
spares name above (gives preset r) c h = rw (c, h) refl
spares name above (gives event r) c h = rw (c, h) refl
spares name above line c h = refl

says : Says line_of
says = record { kept = event-line-kept; begins = λ rest. plain-cpu rest ∙ cpu-begins rest }

bad-fault : (x : ExtendedView) → is_field x.presets.cpu ≡ false → first_fault (line_cause x.presets.cpu) [] (lines_of (extended_text x)) ≡ None
unfolding extended_text table_text rows_text
bad-fault x e =
    bad-faultless x.presets.cpu (line_cause x.presets.cpu) (spares x.presets.cpu) line_of says (λ n. refl)
    ((x.presets.cpu ++ (10 ∷ rows_text (rows_of_entries symbols x.presets.rows))) ++ rows_text (event_rows x.events)) e

bad-back : (x : ExtendedView) → IsExtended x → is_field x.presets.cpu ≡ false → read x.presets.cpu (lines_of (extended_text x)) ≡ x
bad-back x h e =
    let lines = lines-plain line_of event-line-kept (extended_text x) in
    ap₂ (view x.presets.cpu) (no-entries event_judged x.presets (lines_of (extended_text x)) h.table e lines) (no-events x.presets.cpu (lines_of (extended_text x)) e lines ∙ sym (h.named e))

-- ---- the law

pub reads-back : (x : ExtendedView) → IsExtended x → ReadsBack (extended_text x) x
unfolding extended_fault extended_in
reads-back x h = go (is_field x.presets.cpu) refl
  where
    go : (b : Bool) → is_field x.presets.cpu ≡ b → (first_fault (line_cause x.presets.cpu) [] (lines_of (extended_text x)) ≡ None) × (read x.presets.cpu (lines_of (extended_text x)) ≡ x)
    go true e = (good-fault x h e, good-back x h e)
    go false e = (bad-fault x e, bad-back x h e)
