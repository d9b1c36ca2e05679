-- The user events of some rows and of one row more.
use Rattle.user_events.proofs.Words.{◌≡◌, ◌∙◌, ◌∷◌, ◌++◌, Bool, true, false, List, [], map, fold, refl, sym, ap, ap₂, subst, append-nil, None, Result}
use Rattle.user_events.proofs.Words.{Ok, Err, ◌||◌, if◌then◌else◌, Decides, AllByRecursion, list_any, bytes_eq, fold-append, bytes_eq-Decides}
use Rattle.user_events.proofs.Words.{cond_both, Text, no_two-more, Derivation, Line, event, gives, cause_if, entry_of, entry_or, holds, rows_if}
use Rattle.user_events.proofs.Words.{group_at, Entry, PresetCause, entry-append, map-same, read-more, same-text, turned, event_judged, Distinct}
use Rattle.user_events.proofs.Words.{EventView, names_of, is_event_name, among, event_of, event_read, events_of, events_read, is_too_many, limited}
use Rattle.user_events.proofs.Words.{name_added, named_entry, names_in, events_more, events_with, put_event, put_judged}
use Rattle.preset_csv.specs.declared.fault.PresetCause.TheVariants as cause

-- ---- the names of the user events differ

pub same-order : (s t : Text) → bytes_eq s t ≡ false → bytes_eq t s ≡ false
same-order s t e = turned t s ∙ e

distinct-last : (ns : List Text) (s : Text) → among s ns ≡ false → Distinct ns → Distinct (ns ++ s ∷ [])
distinct-last ns s e d = no_two-more bytes_eq ns s d ((λ i. list_any (λ x. turned x s i) ns) ∙ e)

distinct-added : (ns : List Text) (r : Derivation) → Distinct ns → Distinct (name_added ns r)
distinct-added ns r d = cond_both (among r.symbol ns) ns (ns ++ r.symbol ∷ []) Distinct (λ e. d) (λ e. distinct-last ns r.symbol e d)

distinct-all : (ns : List Text) (rows : List Derivation) → Distinct ns → Distinct (fold name_added ns rows)
distinct-all ns [] d = d
distinct-all ns (r ∷ rows) d = distinct-all (name_added ns r) rows (distinct-added ns r d)

pub names-distinct : (rows : List Derivation) → Distinct (names_in rows)
unfolding names_in
names-distinct rows = distinct-all [] rows tt

pub names-are : (rows : List Derivation) → names_of (events_of rows) ≡ names_in rows
names-are rows = go (names_in rows)
  where
    go : (ns : List Text) → map (λ (e : EventView). e.name) (map (event_of rows) ns) ≡ ns
    go [] = refl
    go (n ∷ ns) = ap (λ (ts : List Text). n ∷ ts) (go ns)

-- ---- the user events

abbrev view : Text → Entry → EventView
view n e = record { name = n; entry = e }

abbrev changed : (Text → Entry) → Text → Entry → Text → EventView
changed f s x n = view n (if bytes_eq s n then x else f n)

unchanged : (f : Text → Entry) (s : Text) (x : Entry) (ns : List Text) → AllByRecursion (λ u. bytes_eq s u ≡ false) ns → map (changed f s x) ns ≡ map (λ n. view n (f n)) ns
unchanged f s x [] h = refl
unchanged f s x (n ∷ ns) h = ap₂ (λ y ys. y ∷ ys) (ap (λ (b : Bool). view n (if b then x else f n)) h.0) (unchanged f s x ns h.1)

put-names : (f : Text → Entry) (s : Text) (x : Entry) (ns : List Text) → Distinct ns → map (changed f s x) (if among s ns then ns else ns ++ s ∷ []) ≡ put_event (map (λ n. view n (f n)) ns) s x
put-names f s x [] d = ap (λ (b : Bool). view s (if b then x else f s) ∷ []) (same-text s)
put-names f s x (n ∷ ns) d = go (bytes_eq s n) (bytes_eq-Decides s n) refl (put-names f s x ns d.1)
  where
    later : (b c : Bool) → bytes_eq s n ≡ false → map (changed f s x) (if c then ns else ns ++ s ∷ []) ≡ put_event (map (λ n. view n (f n)) ns) s x
        → map (changed f s x) (if c then n ∷ ns else n ∷ (ns ++ s ∷ [])) ≡ view n (f n) ∷ put_event (map (λ n. view n (f n)) ns) s x
    later b true e h = ap₂ (λ y ys. y ∷ ys) (ap (λ (b : Bool). view n (if b then x else f n)) e) h
    later b false e h = ap₂ (λ y ys. y ∷ ys) (ap (λ (b : Bool). view n (if b then x else f n)) e) h

    go : (b : Bool) → Decides b (s ≡ n) → bytes_eq s n ≡ b → map (changed f s x) (if among s ns then ns else ns ++ s ∷ []) ≡ put_event (map (λ n. view n (f n)) ns) s x
        → map (changed f s x) (if b || among s ns then n ∷ ns else n ∷ (ns ++ s ∷ [])) ≡ (if b then view n x ∷ map (λ n. view n (f n)) ns else view n (f n) ∷ put_event (map (λ n. view n (f n)) ns) s x)
    go true k e h =
        let others : AllByRecursion (λ u. bytes_eq s u ≡ false) ns = subst (λ (t : Text). AllByRecursion (λ u. bytes_eq t u ≡ false) ns) (sym (k.0 refl)) d.0 in
        ap₂ (λ y ys. y ∷ ys) (ap (λ (b : Bool). view n (if b then x else f n)) e) (unchanged f s x ns others)
    go false k e h = later false (among s ns) e h

pub put-more : (rows : List Derivation) (r : Derivation) (x : Entry) → event_judged r ≡ Ok x → events_of (rows ++ r ∷ []) ≡ put_event (events_of rows) r.symbol x
unfolding names_in
put-more rows r x j =
    let names : names_in (rows ++ r ∷ []) ≡ name_added (names_in rows) r = fold-append name_added [] rows (r ∷ []) in
    ap (map (event_of (rows ++ r ∷ []))) names
    ∙ map-same (event_of (rows ++ r ∷ [])) (changed (entry_of event_judged rows) r.symbol x) (name_added (names_in rows) r)
    (λ n. ap (view n) (entry-append event_judged rows r n ∙ ap (λ (o : Result Entry PresetCause). if bytes_eq r.symbol n then entry_or (entry_of event_judged rows n) o else entry_of event_judged rows n) j))
    ∙ put-names (entry_of event_judged rows) r.symbol x (names_in rows) (names-distinct rows)

-- what a name's row is judged as
pub record Named (names : List Text) (r : Derivation) (x : Entry) : Type 0 where
  pub form : is_event_name r.symbol ≡ true
  pub few : is_too_many names r.symbol ≡ false
  pub entry : event_judged r ≡ Ok x

pub named-ok : (names : List Text) (r : Derivation) (x : Entry) → named_entry names r ≡ Ok x → Named names r x
named-ok names r x e = go (is_event_name r.symbol) (is_too_many names r.symbol) refl refl e
  where
    none : (j : Result Entry PresetCause) → limited true j ≡ Ok x → ⊥
    none (Ok y) h = cc h
    none (Err cause.NoCpu) h = cc h
    none j h = cc h

    go : (b c : Bool) → is_event_name r.symbol ≡ b → is_too_many names r.symbol ≡ c → (if b then limited c (event_judged r) else Err cause.BadField) ≡ Ok x → Named names r x
    go true true p q h = absurd (none (event_judged r) h)
    go true false p q h = record { form = p; few = q; entry = h }
    go false c p q h = cc h

pub no-cause : (j : Result Entry PresetCause) → cause_if true j ≡ None → (x : Entry) × (j ≡ Ok x)
no-cause (Ok x) e = (x, refl)
no-cause (Err why) e = cc e

same-events : (rows : List Derivation) → events_of (rows ++ []) ≡ events_of rows
same-events rows = ap events_of (append-nil rows)

-- an EVENT row that is read has no cause
abbrev pub events_more_cause : Text → List Line → Line → Type 0
events_more_cause name above (gives event r) = cause_if (holds name above) (named_entry (names_in (events_read name above)) r) ≡ None
events_more_cause name above line = Unit {0}

pub events-more : (name : Text) (above : List Line) (line : Line) → events_more_cause name above line
    → events_of (events_read name (above ++ line ∷ [])) ≡ events_more (group_at name above) (events_of (events_read name above)) line
events-more name above line h = ap events_of (read-more (event_read name) [] above line) ∙ any line h
  where
    rows : List Derivation
    rows = events_read name above

    go : (r : Derivation) (b : Bool) → cause_if b (named_entry (names_in rows) r) ≡ None → events_of (rows ++ rows_if b r) ≡ events_with b (events_of rows) r
    go r false e = same-events rows
    go r true e =
        let x = no-cause (named_entry (names_in rows) r) e in
        let n = named-ok (names_in rows) r x.0 x.1 in
        put-more rows r x.0 n.entry ∙ sym (ap (put_judged (events_of rows) r.symbol) (ap (λ (ns : List Text). named_entry ns r) (names-are rows) ∙ x.1))

    any : (line : Line) → events_more_cause name above line → events_of (rows ++ event_read name above line) ≡ events_more (group_at name above) (events_of rows) line
    any (gives event r) h = go r (holds name above) h
    any line h = same-events rows
