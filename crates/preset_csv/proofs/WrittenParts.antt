-- The text of rows, piece by piece.
use Rattle.preset_csv.proofs.Words.{◌≡◌, ◌∙◌, ◌+◌, ◌<◌, ◌≤◌, ◌∷◌, ◌++◌, ℕ, zero, suc, List, [], length, map, get_or, drop, take, refl, sym, ap, ap₂}
use Rattle.preset_csv.proofs.Words.{arith, append_assoc, append-nil, codes, slice_get, join_with_byte, option_map_or, drop_all, drop_more, map-append}
use Rattle.preset_csv.proofs.Words.{take_more, rows_text, Text, PresetRow, preset_rows, symbol_at, DefView, after_commas, TableView, symbols}
use Rattle.preset_csv.proofs.Words.{def_fields, entry_rows, rows_of_entries, rows_of_entry, table_text, Entry, PRESETS}
use Rattle.preset_csv.specs.declared.entry.Entry.TheVariants as entry
use Rattle.preset_csv.proofs.Searching.{rows_counted}

-- fields joined by commas
joined : (x : Text) (rest : List Text) → join_with_byte 44 (x ∷ rest) ≡ x ++ after_commas rest
joined x [] = sym (append-nil x)
joined x (y ∷ rest) = ap (λ (t : Text). x ++ (44 ∷ t)) (joined y rest)

pub commas-append : (xs ys : List Text) → after_commas (xs ++ ys) ≡ after_commas xs ++ after_commas ys
commas-append [] ys = refl
commas-append (x ∷ xs) ys = ap (λ (t : Text). 44 ∷ (x ++ t)) (commas-append xs ys) ∙ ap (λ (t : Text). 44 ∷ t) (sym (append_assoc x (after_commas xs) (after_commas ys)))

-- one row
pub row-text : (x : Text) (rest : List Text) → rows_text ((x ∷ rest) ∷ []) ≡ (x ++ after_commas rest) ++ (10 ∷ [])
unfolding rows_text
row-text x rest = ap (λ (t : Text). t ++ (10 ∷ [])) (joined x rest)

pub rows-append : (xs ys : List (List Text)) → rows_text (xs ++ ys) ≡ rows_text xs ++ rows_text ys
unfolding rows_text
rows-append [] ys = refl
rows-append (x ∷ xs) ys = ap (λ (t : Text). join_with_byte 44 x ++ (10 ∷ t)) (rows-append xs ys) ∙ sym (append_assoc (join_with_byte 44 x) (10 ∷ rows_text xs) (rows_text ys))

-- one field more of a list
pub fields-more : {X : Type 0} (view : X → Text) (xs : List X) (i : ℕ) (x : X) (first old new field : Text) → i < length xs → x ≡ get_or xs i x
    → field ≡ view x → old ≡ first ++ after_commas (map view (take i xs))
    → new ≡ old ++ (44 ∷ field) → new ≡ first ++ after_commas (map view (take (i + 1) xs))
fields-more view xs i x first old new field lt at is before are =
    let last : after_commas (map view (take (i + 1) xs)) ≡ after_commas (map view (take i xs)) ++ (44 ∷ (view x ++ [])) =
    ap (λ ys. after_commas (map view ys)) (take_more xs i x lt ∙ ap (λ y. take i xs ++ (y ∷ [])) (sym at))
    ∙ ap after_commas (map-append view (take i xs) (x ∷ [])) ∙ commas-append (map view (take i xs)) (view x ∷ []) in
    are ∙ ap (λ (t : Text). t ++ (44 ∷ field)) before ∙ append_assoc first (after_commas (map view (take i xs))) (44 ∷ field)
    ∙ ap (λ (t : Text). first ++ (after_commas (map view (take i xs)) ++ (44 ∷ t))) (is ∙ sym (append-nil (view x)))
    ∙ sym (ap (λ (t : Text). first ++ t) last)

-- ---- the row of an entry

pub put-row : (before word symbol fields end : Text) → (((before ++ word) ++ (44 ∷ symbol)) ++ fields) ++ end ≡ before ++ ((word ++ (44 ∷ (symbol ++ fields))) ++ end)
put-row before word symbol fields end =
    ap (λ (t : Text). t ++ end) (append_assoc (before ++ word) (44 ∷ symbol) fields ∙ append_assoc before word ((44 ∷ symbol) ++ fields))
    ∙ append_assoc before (word ++ (44 ∷ (symbol ++ fields))) end

pub missing-put : (w s : Text) (e : Entry) (text : Text) → e ≡ entry.Missing → text ≡ text ++ rows_text (rows_of_entry w s e)
unfolding rows_text
missing-put w s e text is = rw is (sym (append-nil text))

put-fields : (w s fields t0 t2 t3 t4 : Text) (row : List Text) → fields ≡ after_commas row → t2 ≡ (t0 ++ w) ++ (44 ∷ s) → t3 ≡ t2 ++ fields → t4 ≡ t3 ++ (10 ∷ [])
    → t4 ≡ t0 ++ rows_text ((w ∷ s ∷ row) ∷ [])
put-fields w s fields t0 t2 t3 t4 row is second third fourth =
    fourth ∙ ap (λ (t : Text). t ++ (10 ∷ [])) (third ∙ ap (λ (t : Text). t ++ fields) second)
    ∙ put-row t0 w s fields (10 ∷ []) ∙ ap (λ (t : Text). t0 ++ ((w ++ (44 ∷ (s ++ t))) ++ (10 ∷ []))) is
    ∙ ap (λ (t : Text). t0 ++ t) (sym (row-text w (s ∷ row)))

pub uncomputed-put : (w s : Text) (e : Entry) (t0 t2 t3 : Text) → e ≡ entry.Uncomputed → t2 ≡ (t0 ++ w) ++ (44 ∷ s)
    → t3 ≡ t2 ++ codes ",DERIVED_CMPD\n" → t3 ≡ t0 ++ rows_text (rows_of_entry w s e)
uncomputed-put w s e t0 t2 t3 is second third =
    rw is (put-fields w s (codes ",DERIVED_CMPD") t0 t2 (t2 ++ codes ",DERIVED_CMPD") t3 (codes "DERIVED_CMPD" ∷ []) refl second refl
    (third ∙ sym (append_assoc t2 (codes ",DERIVED_CMPD") (10 ∷ []))))

pub def-put : (w s : Text) (e : Entry) (d : DefView) (t0 t2 t3 t4 : Text) → e ≡ entry.Def d → t2 ≡ (t0 ++ w) ++ (44 ∷ s)
    → t3 ≡ t2 ++ after_commas (def_fields d) → t4 ≡ t3 ++ (10 ∷ [])
    → t4 ≡ t0 ++ rows_text (rows_of_entry w s e)
def-put w s e d t0 t2 t3 t4 is second third fourth = rw is (put-fields w s (after_commas (def_fields d)) t0 t2 t3 t4 (def_fields d) refl second third fourth)

-- ---- the rows of the table

pub length-symbols : length symbols ≡ PRESETS
unfolding symbols preset_rows
length-symbols = refl

at-place : (rows : List PresetRow) (i : ℕ) → i < length rows → option_map_or (λ r. r.symbol) (slice_get rows i) [] ≡ get_or (map (λ r. r.symbol) rows) i []
at-place [] i lt = absurd (omega arith)
at-place (r ∷ rows) zero lt = refl
at-place (r ∷ rows) (suc i) lt = at-place rows i (omega arith)

symbol-at : (i : ℕ) → i < PRESETS → symbol_at i ≡ get_or symbols i []
unfolding symbols symbol_at
symbol-at i lt = at-place preset_rows i (omega (arith, lt, rows_counted))

-- the text of the rows from a place on
abbrev pub text_from : List Entry → ℕ → Text
text_from rows i = rows_text (rows_of_entries (drop i symbols) (drop i rows))

first-entry : (s : Text) (e : Entry) (ss : List Text) (es : List Entry) → rows_text (rows_of_entries (s ∷ ss) (e ∷ es)) ≡ rows_text (entry_rows s e) ++ rows_text (rows_of_entries ss es)
unfolding rows_of_entries
first-entry s e ss es = rows-append (entry_rows s e) (rows_of_entries ss es)

text-more : (rows : List Entry) (i : ℕ) (d : Entry) → length rows ≡ PRESETS → i < length rows → text_from rows i ≡ rows_text (entry_rows (symbol_at i) (get_or rows i d)) ++ text_from rows (i + 1)
text-more rows i d n lt =
    let in_symbols : i < length symbols = omega (arith, n, lt, length-symbols) in
    let in_table : i < PRESETS = omega (arith, n, lt) in
    ap₂ (λ (ss : List Text) (es : List Entry). rows_text (rows_of_entries ss es)) (drop_more symbols i [] in_symbols) (drop_more rows i d lt)
    ∙ first-entry (get_or symbols i []) (get_or rows i d) (drop (i + 1) symbols) (drop (i + 1) rows)
    ∙ ap (λ (s : Text). rows_text (entry_rows s (get_or rows i d)) ++ text_from rows (i + 1)) (sym (symbol-at i in_table))

text-end : (rows : List Entry) (i : ℕ) → length rows ≡ PRESETS → length rows ≤ i → text_from rows i ≡ []
unfolding rows_of_entries rows_text
text-end rows i n le = rw (drop_all i symbols (omega (arith, n, le, length-symbols))) refl

-- what a loop over the rows keeps: the text so far, with the rows that are left, is the text of the table
abbrev pub IsText : TableView → ℕ → Text → Type 0
IsText t i text = table_text t ≡ text ++ text_from t.rows i

pub begun : (t : TableView) (text : Text) → text ≡ (codes "CPU" ++ (44 ∷ t.cpu)) ++ (10 ∷ []) → IsText t 0 text
unfolding table_text rows_text
begun t text is = sym (rw is (append_assoc (codes "CPU" ++ (44 ∷ t.cpu)) (10 ∷ []) (text_from t.rows 0)))

pub one-more : (t : TableView) (i : ℕ) (s : Text) (e : Entry) (old new : Text) → length t.rows ≡ PRESETS → i < length t.rows → s ≡ symbol_at i
    → e ≡ get_or t.rows i e → new ≡ old ++ rows_text (entry_rows s e) → IsText t i old → IsText t (i + 1) new
one-more t i s e old new n lt at is are h =
    let here : text_from t.rows i ≡ rows_text (entry_rows s e) ++ text_from t.rows (i + 1) =
    text-more t.rows i e n lt ∙ ap₂ (λ (u : Text) (x : Entry). rows_text (entry_rows u x) ++ text_from t.rows (i + 1)) (sym at) (sym is) in
    h ∙ ap (λ (u : Text). old ++ u) here ∙ sym (append_assoc old (rows_text (entry_rows s e)) (text_from t.rows (i + 1))) ∙ ap (λ (u : Text). u ++ text_from t.rows (i + 1)) (sym are)

pub ended : (t : TableView) (i : ℕ) (text : Text) → length t.rows ≡ PRESETS → length t.rows ≤ i → IsText t i text → text ≡ table_text t
ended t i text n le h = sym (h ∙ ap (λ (u : Text). text ++ u) (text-end t.rows i n le) ∙ append-nil text)
