-- A written table reads back.
use Rattle.preset_csv.proofs.Words.{◌≡◌, ◌∙◌, ◌∷◌, ◌++◌, true, false, List, [], length, map, fold, refl, sym, ap, ap₂, arith, append-nil, codes, None}
use Rattle.preset_csv.proofs.Words.{Ok, if◌then◌else◌, is_some, AllByRecursion, bytes_eq, IsPlainRow, NoTwo, Text, rows-back, all-map, preset_rows}
use Rattle.preset_csv.proofs.Words.{row_of, DefView, IsDef, InfixJudging, judged, judged_by, uncomputed, Derivation, Line, cpu, event, gives, Word}
use Rattle.preset_csv.proofs.Words.{line_of, lines_of, preset, first_fault, Judging, cuts_off, entry_of, entry_or, group, has_cpu, holds, line_cause}
use Rattle.preset_csv.proofs.Words.{preset_read, presets, read_from, IsEntry, TableView, symbols, rows_of_entries, table_text, Entry, PRESETS}
use Rattle.preset_csv.specs.declared.entry.Entry.TheVariants as entry
use Rattle.preset_csv.proofs.Fields.{IsGood, symbols-good, word-good}
use Rattle.preset_csv.proofs.Groups.{has_cpu-more, names-more}
use Rattle.preset_csv.proofs.RowBack.{cpu-line, def-good, def-judged, def-line, row_fields, def_row, good-plain, rest-good, rest-judged, rest-line, rest_fields, rest_row}
use Rattle.preset_csv.proofs.SymbolRows.{all-test, same-text, symbols-apart, turned}
use Rattle.preset_csv.proofs.WrittenParts.{length-symbols}

-- the rows of some symbols and their entries, as they read back
unfoldable pub rows_back : List Text → List Entry → List Derivation
rows_back [] entries = []
rows_back (s ∷ rest) [] = []
rows_back (s ∷ rest) (entry.Missing ∷ entries) = rows_back rest entries
rows_back (s ∷ rest) (entry.Uncomputed ∷ entries) = rest_row s ∷ rows_back rest entries
rows_back (s ∷ rest) (entry.Def d ∷ entries) = def_row s d.kind d.formula d.natives ∷ rows_back rest entries

pub rows-plain : (ss : List Text) (es : List Entry) → AllByRecursion IsGood ss → AllByRecursion IsEntry es → AllByRecursion IsPlainRow (rows_of_entries ss es)
unfolding rows_of_entries
rows-plain [] es g h = tt
rows-plain (s ∷ ss) [] g h = tt
rows-plain (s ∷ ss) (entry.Missing ∷ es) g h = rows-plain ss es g.1 h.1
rows-plain (s ∷ ss) (entry.Uncomputed ∷ es) g h = (good-plain (rest_fields s) (rest-good s g.0) (refl, refl), rows-plain ss es g.1 h.1)
rows-plain (s ∷ ss) (entry.Def d ∷ es) g h = (good-plain (row_fields s d.kind d.formula d.natives) (def-good s d g.0 h.0) (refl, refl), rows-plain ss es g.1 h.1)

pub rows-lines : (ss : List Text) (es : List Entry) → AllByRecursion IsGood ss → AllByRecursion IsEntry es → map line_of (rows_of_entries ss es) ≡ map (gives preset) (rows_back ss es)
unfolding rows_of_entries rows_back
rows-lines [] es g h = refl
rows-lines (s ∷ ss) [] g h = refl
rows-lines (s ∷ ss) (entry.Missing ∷ es) g h = rows-lines ss es g.1 h.1
rows-lines (s ∷ ss) (entry.Uncomputed ∷ es) g h = ap₂ (λ (x : Line) (xs : List Line). x ∷ xs) (rest-line s g.0) (rows-lines ss es g.1 h.1)
rows-lines (s ∷ ss) (entry.Def d ∷ es) g h = ap₂ (λ (x : Line) (xs : List Line). x ∷ xs) (def-line s d g.0 h.0) (rows-lines ss es g.1 h.1)

-- PRESET rows, and EVENT rows below them
abbrev pub both : List Derivation → List Derivation → List Line
both rs es = map (gives preset) rs ++ map (gives event) es

-- the lines of a written table
written-lines : (t : TableView) → IsGood t.cpu → AllByRecursion IsEntry t.rows → lines_of (table_text t) ≡ cpu t.cpu ∷ both (rows_back symbols t.rows) []
unfolding table_text
written-lines t g h =
    let plain : AllByRecursion IsPlainRow ((codes "CPU" ∷ t.cpu ∷ []) ∷ rows_of_entries symbols t.rows) =
    (good-plain (codes "CPU" ∷ t.cpu ∷ []) (word-good (codes "CPU") refl, (g, tt)) (refl, refl), rows-plain symbols t.rows symbols-good h) in
    ap (map line_of) (rows-back ((codes "CPU" ∷ t.cpu ∷ []) ∷ rows_of_entries symbols t.rows) plain)
    ∙ ap₂ (λ (x : Line) (xs : List Line). x ∷ xs) (cpu-line t.cpu g) (rows-lines symbols t.rows symbols-good h ∙ sym (append-nil _))

-- ---- the rows are read, and have no cause

-- a row of the table's symbols that has an entry
abbrev pub HasEntry : Judging → Derivation → Type 0
HasEntry judge r = (is_some (row_of r.symbol) ≡ true) × ((e : Entry) × (judge r ≡ Ok e))

abbrev pub Stands : Text → List Line → Type 0
Stands name above = (group above ≡ name ∷ []) × (has_cpu above ≡ true)

pub stands-more : (name : Text) (above : List Line) (w : Word) (r : Derivation) → Stands name above → Stands name (above ++ gives w r ∷ [])
stands-more name above w r s = (names-more above (gives w r) ∙ s.0, has_cpu-more above (gives w r) ∙ rw s.1 refl)

pub all-held : (name : Text) (above : List Line) → Stands name above → holds name above ≡ true
all-held name above s = rw (s.0, same-text name) refl

pub no-cause : (judge : Judging) (name : Text) (above : List Line) (r : Derivation) → Stands name above → HasEntry judge r → line_cause judge name above (gives preset r) ≡ None
no-cause judge name above r s t = rw (s.1, all-held name above s, t.0, t.1.1) refl

pub all-read : (judge : Judging) (name : Text) (above : List Line) (rs es : List Derivation) → Stands name above → AllByRecursion (HasEntry judge) rs → read_from (preset_read name) above (both rs es) ≡ rs
unfolding read_from
all-read judge name above [] [] s h = refl
all-read judge name above [] (r ∷ es) s h = all-read judge name (above ++ gives event r ∷ []) [] es (stands-more name above event r s) tt
all-read judge name above (r ∷ rs) es s h =
    rw (all-held name above s, h.0.0) (ap (λ (t : List Derivation). r ∷ t) (all-read judge name (above ++ gives preset r ∷ []) rs es (stands-more name above preset r s) h.1))

no-fault : (name : Text) (above : List Line) (rows : List Derivation) → Stands name above → AllByRecursion (HasEntry judged) rows → first_fault (line_cause judged name) above (both rows []) ≡ None
unfolding first_fault
no-fault name above [] s h = refl
no-fault name above (r ∷ rows) s h = rw (no-cause judged name above r s h.0) (no-fault name (above ++ gives preset r ∷ []) rows (stands-more name above preset r s) h.1)

-- a written row is judged to give its entry
pub record GivesBack (judge : Judging) : Type 0 where
  pub rest : (s : Text) → judge (rest_row s) ≡ Ok entry.Uncomputed
  pub def : (s : Text) (d : DefView) → IsDef d → judge (def_row s d.kind d.formula d.natives) ≡ Ok (entry.Def d)

abbrev InTable : Text → Type 0
InTable s = is_some (row_of s) ≡ true

pub symbols-in : AllByRecursion InTable symbols
unfolding symbols preset_rows row_of
symbols-in = all-test (λ s. is_some (row_of s)) symbols refl

all-taken : (judge : Judging) → GivesBack judge → (ss : List Text) (es : List Entry) → AllByRecursion InTable ss → AllByRecursion IsEntry es → AllByRecursion (HasEntry judge) (rows_back ss es)
unfolding rows_back
all-taken judge b [] es t h = tt
all-taken judge b (s ∷ ss) [] t h = tt
all-taken judge b (s ∷ ss) (entry.Missing ∷ es) t h = all-taken judge b ss es t.1 h.1
all-taken judge b (s ∷ ss) (entry.Uncomputed ∷ es) t h = ((t.0, (entry.Uncomputed, b.rest s)), all-taken judge b ss es t.1 h.1)
all-taken judge b (s ∷ ss) (entry.Def d ∷ es) t h = ((t.0, (entry.Def d, b.def s d h.0)), all-taken judge b ss es t.1 h.1)

pub table-taken : (judge : Judging) → GivesBack judge → (es : List Entry) → AllByRecursion IsEntry es → AllByRecursion (HasEntry judge) (rows_back symbols es)
table-taken judge b es h = all-taken judge b symbols es symbols-in h

-- ---- each symbol's entry

abbrev step : Judging → Text → Entry → Derivation → Entry
step judge symbol e r = if bytes_eq r.symbol symbol then entry_or e (judge r) else e

-- no row is of this symbol
skips : (judge : Judging) (symbol : Text) (e : Entry) (ss : List Text) (es : List Entry) → AllByRecursion (λ t. bytes_eq t symbol ≡ false) ss → fold (step judge symbol) e (rows_back ss es) ≡ e
unfolding rows_back
skips judge symbol e [] es h = refl
skips judge symbol e (s ∷ ss) [] h = refl
skips judge symbol e (s ∷ ss) (entry.Missing ∷ es) h = skips judge symbol e ss es h.1
skips judge symbol e (s ∷ ss) (entry.Uncomputed ∷ es) h = rw (fold, h.0) (skips judge symbol e ss es h.1)
skips judge symbol e (s ∷ ss) (entry.Def d ∷ es) h = rw (fold, h.0) (skips judge symbol e ss es h.1)

-- a first row of another symbol changes nothing
map-same : (f g : Text → Entry) (ss : List Text) → AllByRecursion (λ t. f t ≡ g t) ss → map f ss ≡ map g ss
map-same f g [] h = refl
map-same f g (s ∷ ss) h = ap₂ (λ (x : Entry) (xs : List Entry). x ∷ xs) h.0 (map-same f g ss h.1)

others-same : (judge : Judging) (s : Text) (r : Derivation) (rows : List Derivation) (ss : List Text) → r.symbol ≡ s → AllByRecursion (λ t. bytes_eq s t ≡ false) ss
    → map (entry_of judge (r ∷ rows)) ss ≡ map (entry_of judge rows) ss
unfolding entry_of
others-same judge s r rows ss is h =
    map-same (entry_of judge (r ∷ rows)) (entry_of judge rows) ss (all-map (λ t. bytes_eq s t ≡ false) (λ t. entry_of judge (r ∷ rows) t ≡ entry_of judge rows t) ss (λ t k. rw (is, k) refl) h)

flip : (s : Text) (ss : List Text) → AllByRecursion (λ t. bytes_eq s t ≡ false) ss → AllByRecursion (λ t. bytes_eq t s ≡ false) ss
flip s ss h = all-map (λ t. bytes_eq s t ≡ false) (λ t. bytes_eq t s ≡ false) ss (λ t k. turned t s ∙ k) h

entries-back : (judge : Judging) → GivesBack judge → (ss : List Text) (es : List Entry) → NoTwo bytes_eq ss → length es ≡ length ss → AllByRecursion IsEntry es → map (entry_of judge (rows_back ss es)) ss ≡ es
unfolding entry_of rows_back
entries-back judge b [] [] a n h = refl
entries-back judge b [] (e ∷ es) a n h = absurd (omega arith)
entries-back judge b (s ∷ ss) [] a n h = absurd (omega arith)
entries-back judge b (s ∷ ss) (entry.Missing ∷ es) a n h =
    ap₂ (λ (x : Entry) (xs : List Entry). x ∷ xs) (skips judge s entry.Missing ss es (flip s ss a.0)) (entries-back judge b ss es a.1 (omega arith) h.1)
entries-back judge b (s ∷ ss) (entry.Uncomputed ∷ es) a n h =
    let first : fold (step judge s) (step judge s entry.Missing (rest_row s)) (rows_back ss es) ≡ entry.Uncomputed = rw (same-text s, b.rest s) (skips judge s entry.Uncomputed ss es (flip s ss a.0)) in
    ap₂ (λ (x : Entry) (xs : List Entry). x ∷ xs) first (others-same judge s (rest_row s) (rows_back ss es) ss refl a.0 ∙ entries-back judge b ss es a.1 (omega arith) h.1)
entries-back judge b (s ∷ ss) (entry.Def d ∷ es) a n h =
    let r = def_row s d.kind d.formula d.natives in
    let first : fold (step judge s) (step judge s entry.Missing r) (rows_back ss es) ≡ entry.Def d = rw (same-text s, b.def s d h.0) (skips judge s (entry.Def d) ss es (flip s ss a.0)) in
    ap₂ (λ (x : Entry) (xs : List Entry). x ∷ xs) first (others-same judge s r (rows_back ss es) ss refl a.0 ∙ entries-back judge b ss es a.1 (omega arith) h.1)

-- ---- the law for a cpu whose name can stand in a field

pub first-stands : (name : Text) → Stands name (cpu name ∷ [])
unfolding group cuts_off has_cpu
first-stands name = (refl, refl)

pub written-back : (judge : InfixJudging) → GivesBack (judged_by judge)
written-back judge = record { rest = rest-judged judge; def = def-judged judge }

fault-back : (name : Text) (rows : List Derivation) → AllByRecursion (HasEntry judged) rows → first_fault (line_cause judged name) [] (cpu name ∷ both rows []) ≡ None
unfolding first_fault
fault-back name rows h = no-fault name (cpu name ∷ []) rows (first-stands name) h

pub fault-of-written : (t : TableView) → IsGood t.cpu → AllByRecursion IsEntry t.rows → first_fault (line_cause judged t.cpu) [] (lines_of (table_text t)) ≡ None
fault-of-written t g h = ap (first_fault (line_cause judged t.cpu) []) (written-lines t g h) ∙ fault-back t.cpu (rows_back symbols t.rows) (table-taken judged (written-back uncomputed) t.rows h)

-- a table's rows, and EVENT rows below them, give its entries
pub presets-back : (judge : Judging) → GivesBack judge → (name : Text) (rows : List Entry) (es : List Derivation) → length rows ≡ PRESETS → AllByRecursion IsEntry rows
    → presets judge name (cpu name ∷ both (rows_back symbols rows) es) ≡ rows
unfolding presets read_from
presets-back judge b name rows es n h =
    ap (λ (rs : List Derivation). map (entry_of judge rs) symbols) (all-read judge name (cpu name ∷ []) (rows_back symbols rows) es (first-stands name) (table-taken judge b rows h))
    ∙ entries-back judge b symbols rows symbols-apart (n ∙ sym length-symbols) h

pub presets-of-written : (t : TableView) → IsGood t.cpu → length t.rows ≡ PRESETS → AllByRecursion IsEntry t.rows → presets judged t.cpu (lines_of (table_text t)) ≡ t.rows
presets-of-written t g n h = ap (presets judged t.cpu) (written-lines t g h) ∙ presets-back judged (written-back uncomputed) t.cpu t.rows [] n h
