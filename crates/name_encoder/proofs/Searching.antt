-- An event is found by its row, and searched component by component.
use Rattle.name_encoder.proofs.Words.{◌≡◌, ◌∙◌, ◌+◌, ◌<◌, ◌≤◌, ◌∷◌, ℕ, suc, List, [], Option, Some, None, Bool, true, false, length, get_or, drop}
use Rattle.name_encoder.proofs.Words.{refl, sym, ap, subst, arith, drop_more, drop_all, slice_get-get_or, position_from, option_and_then, option_or}
use Rattle.name_encoder.proofs.Words.{str_eq_ignore_ascii_case, str_to_ascii_lowercase, passed_over, Text, ComponentText, EventText, event_at}
use Rattle.name_encoder.proofs.Words.{event_of_lower, row_of_lower, Split, Found, agrees, choice, event_from, found_from}
use Rattle.std.specs.Prelude.{◌&&◌, if◌then◌else◌, option_map, slice_get}

abbrev found : ℕ → ℕ → ComponentText → EventText → Found
found comp row c e = record { comp = comp; row = row; component = c; event = e }

-- ---- the event in the row that has its name

record At (comp row k : ℕ) (c : ComponentText) (es : List EventText) (o : Option Found) : Type 0 where
  place : ℕ
  row_is : row ≡ k + place
  event : EventText
  at : slice_get es place ≡ Some event
  is : o ≡ Some (found comp row c event)

event-at : (comp row k : ℕ) (c : ComponentText) (name : Text) (es : List EventText) → position_from (λ x. str_eq_ignore_ascii_case x.name name) k es ≡ Some row
    → At comp row k c es (event_from comp c name k es)
unfolding event_from
event-at comp row k c name [] e = cc e
event-at comp row k c name (x ∷ es) e = go (str_eq_ignore_ascii_case x.name name) e (λ q. event-at comp row (k + 1) c name es q)
  where
    go : (b : Bool) → (if b then Some k else position_from (λ y. str_eq_ignore_ascii_case y.name name) (k + 1) es) ≡ Some row
        → (position_from (λ y. str_eq_ignore_ascii_case y.name name) (k + 1) es ≡ Some row → At comp row (k + 1) c es (event_from comp c name (k + 1) es))
        → At comp row k c (x ∷ es) (if b then Some (found comp k c x) else event_from comp c name (k + 1) es)
    go true q more =
        let same : k ≡ row = cc q in
        record { place = 0; row_is = omega (arith, same); event = x; at = refl; is = ap (λ (n : ℕ). Some (found comp n c x)) same }
    go false q more =
        let m = more q in
        record { place = suc m.place; row_is = omega (arith, m.row_is); event = m.event; at = m.at; is = m.is }

event-none : (comp k : ℕ) (c : ComponentText) (name : Text) (es : List EventText) → position_from (λ x. str_eq_ignore_ascii_case x.name name) k es ≡ None → event_from comp c name k es ≡ None
unfolding event_from
event-none comp k c name [] e = refl
event-none comp k c name (x ∷ es) e =
    let q = passed_over (str_eq_ignore_ascii_case x.name name) k (position_from (λ y. str_eq_ignore_ascii_case y.name name) (k + 1) es) e in
    rw q.0 (event-none comp (k + 1) c name es q.1)

row-of : (tables : List ComponentText) (comp : ℕ) (c : ComponentText) (lower name : Text) (o : Option ℕ) → slice_get tables comp ≡ Some c → lower ≡ str_to_ascii_lowercase name
    → o ≡ event_of_lower tables comp lower → position_from (λ x. str_eq_ignore_ascii_case x.name name) 0 c.events ≡ o
row-of tables comp c lower name o at is e =
    sym (e ∙ ap (option_and_then (λ (k : ComponentText). row_of_lower k.events lower)) at ∙ ap (row_of_lower c.events) is)

-- ---- the component in a place

meant : (a : Bool) (o : Option Found) → a ≡ true → (if a then o else None) ≡ o
meant a o e = rw e refl

pub place-lacks : (s : Split) (tables : List ComponentText) (comp : ℕ) (c : ComponentText) (lower : Text) → slice_get tables comp ≡ Some c
    → (agrees s.comp c.name && agrees s.pmu c.pmu) ≡ true → lower ≡ str_to_ascii_lowercase s.event → None ≡ event_of_lower tables comp lower
    → option_and_then (choice s comp) (slice_get tables comp) ≡ None
place-lacks s tables comp c lower at agree is e =
    ap (option_and_then (choice s comp)) at ∙ meant (agrees s.comp c.name && agrees s.pmu c.pmu) (event_from comp c s.event 0 c.events) agree
    ∙ event-none comp 0 c s.event c.events (row-of tables comp c lower s.event None at is e)

-- the row that was found has an event, which is the one that the component has
pub place-has : (s : Split) (tables : List ComponentText) (comp row : ℕ) (c : ComponentText) (lower : Text) (o : Option EventText) → slice_get tables comp ≡ Some c
    → (agrees s.comp c.name && agrees s.pmu c.pmu) ≡ true → lower ≡ str_to_ascii_lowercase s.event → Some row ≡ event_of_lower tables comp lower
    → o ≡ event_at tables comp row → option_and_then (choice s comp) (slice_get tables comp) ≡ option_map (found comp row c) o
place-has s tables comp row c lower o at agree is e ev =
    let m = event-at comp row 0 c s.event c.events (row-of tables comp c lower s.event (Some row) at is e) in
    let place : m.place ≡ row = omega (arith, m.row_is) in
    let here : slice_get c.events row ≡ Some m.event = subst (λ (n : ℕ). slice_get c.events n ≡ Some m.event) place m.at in
    let event : o ≡ Some m.event = ev ∙ ap (option_and_then (λ (k : ComponentText). slice_get k.events row)) at ∙ here in
    ap (option_and_then (choice s comp)) at ∙ meant (agrees s.comp c.name && agrees s.pmu c.pmu) (event_from comp c s.event 0 c.events) agree
    ∙ m.is ∙ sym (ap (option_map (found comp row c)) event)

-- ---- component by component

split-first : (s : Split) (tables : List ComponentText) (comp : ℕ) (d : ComponentText) → comp < length tables
    → found_from s comp (drop comp tables) ≡ option_or (choice s comp (get_or tables comp d)) (found_from s (comp + 1) (drop (comp + 1) tables))
unfolding found_from
split-first s tables comp d lt = rw (drop_more tables comp d lt) refl

here-of : (s : Split) (tables : List ComponentText) (comp : ℕ) → comp < length tables → (o : Option Found) → option_and_then (choice s comp) (slice_get tables comp) ≡ o
    → found_from s comp (drop comp tables) ≡ option_or o (found_from s (comp + 1) (drop (comp + 1) tables))
here-of s [] comp lt o e = absurd (omega arith)
here-of s (c ∷ tables) comp lt o e = go (slice_get-get_or (c ∷ tables) comp c lt)
  where
    go : slice_get (c ∷ tables) comp ≡ Some (get_or (c ∷ tables) comp c) → found_from s comp (drop comp (c ∷ tables)) ≡ option_or o (found_from s (comp + 1) (drop (comp + 1) (c ∷ tables)))
    go at =
        let is : choice s comp (get_or (c ∷ tables) comp c) ≡ o = rw at at e in
        split-first s (c ∷ tables) comp c lt ∙ ap (λ (x : Option Found). option_or x (found_from s (comp + 1) (drop (comp + 1) (c ∷ tables)))) is

pub component-here : (s : Split) (tables : List ComponentText) (comp : ℕ) (f : Found) → comp < length tables → option_and_then (choice s comp) (slice_get tables comp) ≡ Some f
    → found_from s comp (drop comp tables) ≡ Some f
component-here s tables comp f lt e = here-of s tables comp lt (Some f) e

pub component-later : (s : Split) (tables : List ComponentText) (comp : ℕ) → comp < length tables → option_and_then (choice s comp) (slice_get tables comp) ≡ None
    → found_from s comp (drop comp tables) ≡ found_from s (comp + 1) (drop (comp + 1) tables)
component-later s tables comp lt e = here-of s tables comp lt None e

pub component-never : (s : Split) (tables : List ComponentText) (comp : ℕ) → length tables ≤ comp → found_from s comp (drop comp tables) ≡ None
unfolding found_from
component-never s tables comp le = rw (drop_all comp tables le) refl
