-- The user events that are available, and the tables that they make.
use Rattle.component_table.proofs.Words.{◌≡◌, ◌∙◌, ◌≤◌, ◌+◌, ℕ, Bool, true, false, cond, List, [], ◌∷◌, ◌++◌, length, map, refl, string_bytes, sym}
use Rattle.component_table.proofs.Words.{ap, arith, append_assoc, not, position, position_or_len, AllByRecursion, bytes_eq, cond_both, append-nil}
use Rattle.component_table.proofs.Words.{length-map, Book, IsTable, TableView, is_field, Text, Distinct, EventView, ExtendedView, IsEvent, IsExtended}
use Rattle.component_table.proofs.Words.{names_of, is_event_name, Entry, event_view, UserEvent, BookFits, ComponentText, shape_of, events_from}
use Rattle.component_table.proofs.Words.{is_available, kept_if, rows_in, IsCatalog, PRESETS}

step : (book : Book) (r : ℕ) (e : EventView) (rest : List EventView) → events_from book r (e ∷ rest) ≡ kept_if (is_available book r) e ++ events_from book (r + 1) rest
unfolding events_from
step book r e rest = refl

pub none : (book : Book) (r : ℕ) → events_from book r [] ≡ []
unfolding events_from
none book r = refl

-- one user event more
pub kept-more : (book : Book) (r : ℕ) (events : List EventView) (e : EventView) (n : ℕ) → n ≡ r + length events
    → events_from book r (events ++ e ∷ []) ≡ events_from book r events ++ kept_if (is_available book n) e
kept-more book r [] e n at =
    let same : n ≡ r = omega (arith, at) in
    step book r e [] ∙ ap (λ more. kept_if (is_available book r) e ++ more) (none book (r + 1)) ∙ append-nil (kept_if (is_available book r) e)
    ∙ ap (λ k. kept_if (is_available book k) e) (sym same) ∙ ap (λ done. done ++ kept_if (is_available book n) e) (sym (none book r))
kept-more book r (x ∷ events) e n at =
    step book r x (events ++ e ∷ [])
    ∙ ap (λ more. kept_if (is_available book r) x ++ more) (kept-more book (r + 1) events e n (omega (arith, at)))
    ∙ sym (append_assoc (kept_if (is_available book r) x) (events_from book (r + 1) events) (kept_if (is_available book n) e))
    ∙ ap (λ done. done ++ kept_if (is_available book n) e) (sym (step book r x events))

-- ---- what the kept ones keep

fewer : (book : Book) (r : ℕ) (events : List EventView) → length (events_from book r events) ≤ length events
fewer book r [] = rw (none book r) (omega arith)
fewer book r (e ∷ rest) = rw (step book r e rest) (
    let le = fewer book (r + 1) rest in
    cond_both (is_available book r) (e ∷ []) [] (λ (es : List EventView). length (es ++ events_from book (r + 1) rest) ≤ length (e ∷ rest)) (λ b. omega (arith, le)) (λ b. omega (arith, le)))

each-kept : (P : EventView → Type 0) (book : Book) (r : ℕ) (events : List EventView) → AllByRecursion P events → AllByRecursion P (events_from book r events)
each-kept P book r [] all = rw (none book r) tt
each-kept P book r (e ∷ rest) all = rw (step book r e rest) (
    let more = each-kept P book (r + 1) rest all.1 in
    cond_both (is_available book r) (e ∷ []) [] (λ (es : List EventView). AllByRecursion P (es ++ events_from book (r + 1) rest)) (λ b. (all.0, more)) (λ b. more))

names_each : (Q : Text → Type 0) (events : List EventView) → AllByRecursion (λ e. Q e.name) events → AllByRecursion Q (names_of events)
names_each Q [] all = tt
names_each Q (e ∷ rest) all = (all.0, names_each Q rest all.1)

each_name : (Q : Text → Type 0) (events : List EventView) → AllByRecursion Q (names_of events) → AllByRecursion (λ e. Q e.name) events
each_name Q [] all = tt
each_name Q (e ∷ rest) all = (all.0, each_name Q rest all.1)

distinct-kept : (book : Book) (r : ℕ) (events : List EventView) → Distinct (names_of events) → Distinct (names_of (events_from book r events))
distinct-kept book r [] d = rw (none book r) tt
distinct-kept book r (e ∷ rest) d = rw (step book r e rest) (go (is_available book r) (distinct-kept book (r + 1) rest d.1))
  where
    other : Text → Type 0
    other u = bytes_eq e.name u ≡ false

    go : (b : Bool) → Distinct (names_of (events_from book (r + 1) rest)) → Distinct (names_of (kept_if b e ++ events_from book (r + 1) rest))
    go true more = (names_each other (events_from book (r + 1) rest) (each-kept (λ x. other x.name) book (r + 1) rest (each_name other rest d.0)), more)
    go false more = more

-- a table's available ones are a table
pub kept-extended : (book : Book) (x : ExtendedView) (presets : TableView) → IsExtended x → IsTable presets → presets.cpu ≡ x.presets.cpu
    → IsExtended (record { presets = presets; events = events_from book PRESETS x.events })
kept-extended book x presets is table cpu = record {
  table = table;
  few = omega (arith, is.few, fewer book PRESETS x.events);
  each = each-kept IsEvent book PRESETS x.events is.each;
  distinct = distinct-kept book PRESETS x.events is.distinct;
  named = λ f. ap (events_from book PRESETS) (is.named (sym (ap is_field cpu) ∙ f)) ∙ none book PRESETS;
}

-- ---- the names of a table

names_form : (events : List EventView) → AllByRecursion IsEvent events → AllByRecursion (λ n. is_event_name n ≡ true) (names_of events)
names_form [] all = tt
names_form (e ∷ rest) all = (all.0.0, names_form rest all.1)

pub catalog-kept : (tables : List ComponentText) (book : Book) (x : ExtendedView) (names : List Text) → IsExtended x → BookFits (shape_of tables) book → names ≡ names_of x.events
    → IsCatalog (record { tables = tables; book = book; names = names })
catalog-kept tables book x names is fits named = rw named (record {
  fits = fits;
  few = omega (arith, is.few, length-map x.events (λ e. e.name));
  each = names_form x.events is.each;
  distinct = is.distinct;
})

-- ---- the rows and the names, taken out of user events

entries_of : (events : List UserEvent) → map (λ e. e.entry) (map event_view events) ≡ map (λ u. u.entry) events
entries_of [] = refl
entries_of (u ∷ events) = ap (λ es. u.entry ∷ es) (entries_of events)

names_out : (events : List UserEvent) → names_of (map event_view events) ≡ map (λ u. string_bytes u.name) events
names_out [] = refl
names_out (u ∷ events) = ap (λ ns. string_bytes u.name ∷ ns) (names_out events)

pub rows-out : (x : ExtendedView) (rows entries : List Entry) (events done : List UserEvent) → rows ≡ x.presets.rows → map event_view events ≡ x.events
    → done ≡ events → entries ≡ rows ++ map (λ u. u.entry) done
    → entries ≡ rows_in x
rows-out x rows entries events done of taken all is =
    is ∙ ap (λ d. rows ++ map (λ (u : UserEvent). u.entry) d) all ∙ ap (λ es. rows ++ es) (sym (entries_of events))
    ∙ ap (λ es. rows ++ map (λ (e : EventView). e.entry) es) taken ∙ ap (λ rs. rs ++ map (λ (e : EventView). e.entry) x.events) of

pub names-out : (x : ExtendedView) (names : List Text) (events done : List UserEvent) → map event_view events ≡ x.events → done ≡ events
    → names ≡ map (λ u. string_bytes u.name) done → names ≡ names_of x.events
names-out x names events done taken all is = is ∙ ap (map (λ (u : UserEvent). string_bytes u.name)) all ∙ sym (names_out events) ∙ ap names_of taken
