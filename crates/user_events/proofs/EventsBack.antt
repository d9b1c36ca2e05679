-- A written table's rows are read, and give its entries.
use Rattle.user_events.proofs.Words.{◌≡◌, ◌∙◌, ◌+◌, ◌<◌, ◌≤◌, ◌∷◌, ◌++◌, ℕ, Bool, true, false, not, List, [], length, map, fold, refl, sym, ap, subst}
use Rattle.user_events.proofs.Words.{◌&&◌, AllByRecursion, bytes_eq, length-append, map-append, cond_both, or_parts, Text, Derivation, Line, event}
use Rattle.user_events.proofs.Words.{gives, preset, read_from, IsEntry, Entry, HasEntry, Stands, all-held, both, no-cause, stands-more, read-more}
use Rattle.user_events.proofs.Words.{def-judged, rest-judged, event_judged, infix_entry, Distinct, EventView, IsEvent, IsPresent, names_of}
use Rattle.user_events.proofs.Words.{is_event_name, first_fault, among, event_read, events_of, events_read, line_cause, name_added, named_entry}
use Rattle.user_events.proofs.Words.{names_in, put_event, MOST_USER_EVENTS}
use Rattle.std.proofs.Common.{arith, tests, append_assoc, append-nil, None, Ok, nat_le}
use Rattle.preset_csv.specs.declared.entry.Entry.TheVariants as entry
use Rattle.user_events.proofs.EventLines.{event_row, row_back}
use Rattle.user_events.proofs.MoreRows.{put-more, same-order}
use Rattle.user_events.proofs.Putting.{put-last}

-- ---- what a written row is judged as

-- an EVENT row of a name that has an entry
abbrev pub IsNamed : Derivation → Type 0
IsNamed r = (is_event_name r.symbol ≡ true) × ((e : Entry) × (event_judged r ≡ Ok e))

row-judged : (s : Text) (x : Entry) → IsEntry x → IsPresent x → event_judged (row_back s x) ≡ Ok x
row-judged s entry.Missing h g = absurd g
row-judged s entry.Uncomputed h g = rest-judged infix_entry s
row-judged s (entry.Def d) h g = def-judged infix_entry s d h

row-symbol : (s : Text) (x : Entry) → (row_back s x).symbol ≡ s
row-symbol s entry.Missing = refl
row-symbol s x = refl

pub named : (es : List EventView) → AllByRecursion IsEvent es → AllByRecursion IsNamed (map event_row es)
named [] h = tt
named (e ∷ es) h = ((ap is_event_name (row-symbol e.name e.entry) ∙ h.0.0, (e.entry, row-judged e.name e.entry h.0.1 h.0.2)), named es h.1)

-- ---- the rows are read

pub events-back : (name : Text) (above : List Line) (rs es : List Derivation) → Stands name above → read_from (event_read name) above (both rs es) ≡ es
unfolding read_from
events-back name above [] [] s = refl
events-back name above [] (r ∷ es) s = rw (all-held name above s) (ap (λ (t : List Derivation). r ∷ t) (events-back name (above ++ gives event r ∷ []) [] es (stands-more name above event r s)))
events-back name above (r ∷ rs) es s = events-back name (above ++ gives preset r ∷ []) rs es (stands-more name above preset r s)

-- ---- they have no cause

not-many : (b : Bool) (n : ℕ) → n < MOST_USER_EVENTS → (b && nat_le MOST_USER_EVENTS n) ≡ false
not-many true n lt = grind (arith, tests, lt)
not-many false n lt = refl

named-clear : (names : List Text) (r : Derivation) (e : Entry) → is_event_name r.symbol ≡ true → length names < MOST_USER_EVENTS → event_judged r ≡ Ok e → named_entry names r ≡ Ok e
named-clear names r e form few j = rw (form, not-many (not (among r.symbol names)) (length names) few, j) refl

one-name : (ns : List Text) (r : Derivation) → length (name_added ns r) ≤ length ns + 1
one-name ns r =
    cond_both (among r.symbol ns) ns (ns ++ r.symbol ∷ []) (λ (t : List Text). length t ≤ length ns + 1) (λ b. omega arith) (λ b. omega (arith, length-append ns (r.symbol ∷ [])))

few-names : (ns : List Text) (rows : List Derivation) → length (fold name_added ns rows) ≤ length ns + length rows
few-names ns [] = omega arith
few-names ns (r ∷ rows) = omega (arith, few-names (name_added ns r) rows, one-name ns r)

pub names-few : (rows : List Derivation) → length (names_in rows) ≤ length rows
unfolding names_in
names-few rows = omega (arith, few-names [] rows)

event-read : (name : Text) (above : List Line) (r : Derivation) → Stands name above → events_read name (above ++ gives event r ∷ []) ≡ events_read name above ++ r ∷ []
event-read name above r s = read-more (event_read name) [] above (gives event r) ∙ rw (all-held name above s) refl

preset-passed : (name : Text) (above : List Line) (r : Derivation) → events_read name (above ++ gives preset r ∷ []) ≡ events_read name above
preset-passed name above r = read-more (event_read name) [] above (gives preset r) ∙ append-nil (events_read name above)

pub no-fault : (name : Text) (above : List Line) (rs es : List Derivation) → Stands name above → AllByRecursion (HasEntry event_judged) rs → AllByRecursion IsNamed es
    → length (events_read name above) + length es ≤ MOST_USER_EVENTS → first_fault (line_cause name) above (both rs es) ≡ None
unfolding first_fault
no-fault name above [] [] s h k le = refl
no-fault name above [] (r ∷ es) s h k le =
    let few : length (names_in (events_read name above)) < MOST_USER_EVENTS = omega (arith, le, names-few (events_read name above)) in
    let count : length (events_read name (above ++ gives event r ∷ [])) ≡ length (events_read name above) + 1 = ap length (event-read name above r s) ∙ length-append (events_read name above) (r ∷ []) in
    rw (s.1, all-held name above s, named-clear (names_in (events_read name above)) r k.0.1.0 k.0.0 few k.0.1.1)
    (no-fault name (above ++ gives event r ∷ []) [] es (stands-more name above event r s) tt k.1 (omega (arith, le, count)))
no-fault name above (r ∷ rs) es s h k le =
    let same : length (events_read name (above ++ gives preset r ∷ [])) ≡ length (events_read name above) = ap length (preset-passed name above r) in
    rw (no-cause event_judged name above r s h.0) (no-fault name (above ++ gives preset r ∷ []) rs es (stands-more name above preset r s) h.1 k (omega (arith, le, same)))

-- ---- the entries

among-more : (n : Text) (ns : List Text) (s : Text) → among n ns ≡ false → bytes_eq n s ≡ false → among n (ns ++ s ∷ []) ≡ false
among-more n [] s p q = rw q refl
among-more n (m ∷ ns) s p q = let o = or_parts (bytes_eq n m) (among n ns) p in rw o.0 (among-more n ns s o.1 q)

abbrev IsNew : List EventView → Text → Type 0
IsNew done n = among n (names_of done) ≡ false

still-new : (done : List EventView) (x : EventView) (ns : List Text) → AllByRecursion (IsNew done) ns → AllByRecursion (λ u. bytes_eq x.name u ≡ false) ns → AllByRecursion (IsNew (done ++ x ∷ [])) ns
still-new done x [] h k = tt
still-new done x (n ∷ ns) h k =
    (ap (among n) (map-append (λ (e : EventView). e.name) done (x ∷ [])) ∙ among-more n (names_of done) x.name h.0 (same-order x.name n k.0), still-new done x ns h.1 k.1)

events-more : (done todo : List EventView) → events_of (map event_row done) ≡ done → AllByRecursion (IsNew done) (names_of todo) → Distinct (names_of todo) → AllByRecursion IsEvent todo
    → events_of (map event_row (done ++ todo)) ≡ done ++ todo
events-more done [] e n d h = ap (λ (es : List EventView). events_of (map event_row es)) (append-nil done) ∙ e ∙ sym (append-nil done)
events-more done (x ∷ todo) e n d h =
    let here : events_of (map event_row (done ++ x ∷ [])) ≡ done ++ x ∷ [] =
    ap events_of (map-append event_row done (x ∷ [])) ∙ put-more (map event_row done) (event_row x) x.entry (row-judged x.name x.entry h.0.1 h.0.2)
    ∙ ap (λ (s : Text). put_event (events_of (map event_row done)) s x.entry) (row-symbol x.name x.entry)
    ∙ ap (λ (es : List EventView). put_event es x.name x.entry) e ∙ put-last done x.name x.entry n.0 in
    subst (λ (es : List EventView). events_of (map event_row es) ≡ es) (append_assoc done (x ∷ []) todo)
    (events-more (done ++ x ∷ []) todo here (still-new done x (names_of todo) n.1 d.0) d.1 h.1)

all-new : (ns : List Text) → AllByRecursion (IsNew []) ns
all-new [] = tt
all-new (n ∷ ns) = (refl, all-new ns)

pub events-are : (es : List EventView) → Distinct (names_of es) → AllByRecursion IsEvent es → events_of (map event_row es) ≡ es
unfolding names_in
events-are es d h = events-more [] es refl (all-new (names_of es)) d h
