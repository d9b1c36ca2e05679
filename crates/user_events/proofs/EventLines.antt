-- The rows of a written table, each by its kind.
use Rattle.std.proofs.Common.{◌≡◌, ◌∙◌, ◌∷◌, ◌++◌, ℕ, true, List, [], map, refl, sym, ap, ap₂, arith, tests, codes, length}
use Rattle.user_events.proofs.Words.{nat_le, AllByRecursion, list_all, and_parts, map-append, IsPlainRow, rows_of, Text, text_at, rows-back}
use Rattle.user_events.proofs.Words.{all-append, all-map, DefView, IsDef, Derivation, Line, cpu, derivation_of, event, gives, preset, IsEntry}
use Rattle.user_events.proofs.Words.{symbols, def_fields, rows_of_entries, table_text, Entry, both, rows-lines, rows-plain, rows_back, IsGood, IsInk}
use Rattle.user_events.proofs.Words.{ink-good, symbols-good, word-good, cpu-line, def-good, def-line, def_row, first-good, good-plain, preset-line}
use Rattle.user_events.proofs.Words.{rest-good, rest-line, rest_row, all-test, rows-append, EventView, ExtendedView, IsEvent, IsPresent, line_of}
use Rattle.user_events.proofs.Words.{lines_of, is_event_byte, is_event_name, event_rows, extended_text, named_rows}
use Rattle.preset_csv.specs.Lines as Presets
use Rattle.preset_csv.specs.declared.entry.Entry.TheVariants as entry

-- ---- the name of a user event stands in a field

byte-ink : (b : ℕ) → is_event_byte b ≡ true → IsInk b
byte-ink b h = (grind (arith, tests, h), grind (arith, tests, h), grind (arith, tests, h), grind (arith, tests, h))

pub name-good : (t : Text) → is_event_name t ≡ true → IsGood t
unfolding is_event_name
name-good t h =
    let a = and_parts (nat_le 1 (length t)) _ h in
    let b = and_parts (nat_le (length t) 32) _ a.1 in
    let c = and_parts (list_all is_event_byte t) _ b.1 in
    ink-good t (all-map (λ b. is_event_byte b ≡ true) IsInk t byte-ink (all-test is_event_byte t c.0))

-- ---- one row

-- what a row derives does not depend on its first field
same-row : (a b : Text) (rest : List Text) → derivation_of (a ∷ rest) ≡ derivation_of (b ∷ rest)
unfolding derivation_of text_at
same-row a b rest = refl

same-preset : (r q : Derivation) → gives preset r ≡ gives preset q → r ≡ q
same-preset r q e = cc e

def-derived : (s : Text) (d : DefView) → IsGood s → IsDef d → derivation_of (codes "EVENT" ∷ s ∷ def_fields d) ≡ def_row s d.kind d.formula d.natives
def-derived s d g h = same-row (codes "EVENT") (codes "PRESET") (s ∷ def_fields d) ∙ same-preset _ _ (sym (preset-line (s ∷ def_fields d)) ∙ def-line s d g h)

rest-derived : (s : Text) → IsGood s → derivation_of (codes "EVENT" ∷ s ∷ codes "DERIVED_CMPD" ∷ []) ≡ rest_row s
rest-derived s g =
    same-row (codes "EVENT") (codes "PRESET") (s ∷ codes "DERIVED_CMPD" ∷ []) ∙ same-preset _ _ (sym (preset-line (s ∷ codes "DERIVED_CMPD" ∷ [])) ∙ rest-line s g)

event-line : (rest : List Text) → line_of (codes "EVENT" ∷ rest) ≡ gives event (derivation_of (codes "EVENT" ∷ rest))
unfolding line_of
event-line rest = rw (first-good (codes "EVENT") rest (word-good (codes "EVENT") refl)) refl

plain-preset : (rest : List Text) → line_of (codes "PRESET" ∷ rest) ≡ Presets.line_of (codes "PRESET" ∷ rest)
unfolding line_of
plain-preset rest = rw (first-good (codes "PRESET") rest (word-good (codes "PRESET") refl)) refl

pub plain-cpu : (rest : List Text) → line_of (codes "CPU" ∷ rest) ≡ Presets.line_of (codes "CPU" ∷ rest)
unfolding line_of
plain-cpu rest = rw (first-good (codes "CPU") rest (word-good (codes "CPU") refl)) refl

-- ---- the rows of the presets

table-plain : (ss : List Text) (es : List Entry) → map line_of (rows_of_entries ss es) ≡ map Presets.line_of (rows_of_entries ss es)
unfolding rows_of_entries
table-plain [] es = refl
table-plain (s ∷ ss) [] = refl
table-plain (s ∷ ss) (entry.Missing ∷ es) = table-plain ss es
table-plain (s ∷ ss) (entry.Uncomputed ∷ es) = ap₂ (λ (x : Line) (xs : List Line). x ∷ xs) (plain-preset (s ∷ codes "DERIVED_CMPD" ∷ [])) (table-plain ss es)
table-plain (s ∷ ss) (entry.Def d ∷ es) = ap₂ (λ (x : Line) (xs : List Line). x ∷ xs) (plain-preset (s ∷ def_fields d)) (table-plain ss es)

-- ---- the rows of the user events

-- the row that a written user event reads back as
abbrev pub row_back : Text → Entry → Derivation
row_back s entry.Missing = rest_row s
row_back s entry.Uncomputed = rest_row s
row_back s (entry.Def d) = def_row s d.kind d.formula d.natives

abbrev pub event_row : EventView → Derivation
event_row e = row_back e.name e.entry

named-lines : (s : Text) (x : Entry) (rows : List (List Text)) (rs : List Derivation) → IsGood s → IsEntry x → IsPresent x → map line_of rows ≡ map (gives event) rs
    → map line_of (named_rows s x ++ rows) ≡ gives event (row_back s x) ∷ map (gives event) rs
named-lines s entry.Missing rows rs g h k e = absurd k
named-lines s entry.Uncomputed rows rs g h k e = ap₂ (λ (x : Line) (xs : List Line). x ∷ xs) (event-line (s ∷ codes "DERIVED_CMPD" ∷ []) ∙ ap (gives event) (rest-derived s g)) e
named-lines s (entry.Def d) rows rs g h k e = ap₂ (λ (x : Line) (xs : List Line). x ∷ xs) (event-line (s ∷ def_fields d) ∙ ap (gives event) (def-derived s d g h)) e

events-lines : (es : List EventView) → AllByRecursion IsEvent es → map line_of (event_rows es) ≡ map (gives event) (map event_row es)
unfolding event_rows
events-lines [] h = refl
events-lines (e ∷ es) h = named-lines e.name e.entry (event_rows es) (map event_row es) (name-good e.name h.0.0) h.0.1 h.0.2 (events-lines es h.1)

named-plain : (s : Text) (x : Entry) (rows : List (List Text)) → IsGood s → IsEntry x → AllByRecursion IsPlainRow rows → AllByRecursion IsPlainRow (named_rows s x ++ rows)
named-plain s entry.Missing rows g h k = k
named-plain s entry.Uncomputed rows g h k = (good-plain (codes "EVENT" ∷ s ∷ codes "DERIVED_CMPD" ∷ []) (word-good (codes "EVENT") refl, (rest-good s g).1) (refl, refl), k)
named-plain s (entry.Def d) rows g h k = (good-plain (codes "EVENT" ∷ s ∷ def_fields d) (word-good (codes "EVENT") refl, (def-good s d g h).1) (refl, refl), k)

events-plain : (es : List EventView) → AllByRecursion IsEvent es → AllByRecursion IsPlainRow (event_rows es)
unfolding event_rows
events-plain [] h = tt
events-plain (e ∷ es) h = named-plain e.name e.entry (event_rows es) (name-good e.name h.0.0) h.0.1 (events-plain es h.1)

-- ---- all rows

pub written-lines : (x : ExtendedView) → IsGood x.presets.cpu → AllByRecursion IsEntry x.presets.rows → AllByRecursion IsEvent x.events
    → lines_of (extended_text x) ≡ cpu x.presets.cpu ∷ both (rows_back symbols x.presets.rows) (map event_row x.events)
unfolding extended_text table_text
written-lines x g h k =
    let n = x.presets.cpu in
    let table = (codes "CPU" ∷ n ∷ []) ∷ rows_of_entries symbols x.presets.rows in
    let fine : AllByRecursion IsPlainRow table = (good-plain (codes "CPU" ∷ n ∷ []) (word-good (codes "CPU") refl, (g, tt)) (refl, refl), rows-plain symbols x.presets.rows symbols-good h) in
    let all : AllByRecursion IsPlainRow (table ++ event_rows x.events) = all-append IsPlainRow table (event_rows x.events) fine (events-plain x.events k) in
    let first : line_of (codes "CPU" ∷ n ∷ []) ≡ cpu n = plain-cpu (n ∷ []) ∙ cpu-line n g in
    ap (λ (t : Text). map line_of (rows_of t)) (sym (rows-append table (event_rows x.events)))
    ∙ ap (map line_of) (rows-back (table ++ event_rows x.events) all)
    ∙ map-append line_of table (event_rows x.events)
    ∙ ap₂ (λ (a b : List Line). a ++ b) (ap₂ (λ (l : Line) (ls : List Line). l ∷ ls) first (table-plain symbols x.presets.rows ∙ rows-lines symbols x.presets.rows symbols-good h)) (events-lines x.events k)
