-- The symbols of the preset table, each in its row.
use Rattle.preset_csv.proofs.Words.{◌≡◌, ◌∙◌, ◌+◌, ◌<◌, ◌≤◌, ◌∷◌, ℕ, suc, Bool, true, false, List, [], Option, Some, None, cond, map, set, length}
use Rattle.preset_csv.proofs.Words.{refl, sym, ap, ap₂, subst, arith, Decides, AllByRecursion, list_all, position_or_len, bytes_eq, and_from}
use Rattle.preset_csv.proofs.Words.{and_parts, cond_both, ltb-false, ltb-true, not-true, bytes_eq-Decides, NoTwo, Text, is_printable, all-map}
use Rattle.preset_csv.proofs.Words.{PresetRow, preset_rows, row_of, symbols}
use Rattle.std.specs.Prelude.{◌&&◌, not, nat_lt, if◌then◌else◌}

-- what a test says of each
pub all-test : {X : Type 0} (p : X → Bool) (xs : List X) → list_all p xs ≡ true → AllByRecursion (λ x. p x ≡ true) xs
all-test p [] e = tt
all-test p (x ∷ xs) e = let q = and_parts (p x) (list_all p xs) e in (q.0, all-test p xs q.1)

pub test-all : {X : Type 0} (p : X → Bool) (xs : List X) → AllByRecursion (λ x. p x ≡ true) xs → list_all p xs ≡ true
test-all p [] h = refl
test-all p (x ∷ xs) h = and_from (p x) (list_all p xs) h.0 (test-all p xs h.1)

pub same-text : (t : Text) → bytes_eq t t ≡ true
same-text t = (bytes_eq-Decides t t).1 refl

-- the test for equal texts, either way round
pub turned : (s t : Text) → bytes_eq s t ≡ bytes_eq t s
turned s t = go (bytes_eq s t) (bytes_eq t s) (bytes_eq-Decides s t) (bytes_eq-Decides t s)
  where
    go : (b c : Bool) → Decides b (s ≡ t) → Decides c (t ≡ s) → b ≡ c
    go true c d k = sym (k.1 (sym (d.0 refl)))
    go false true d k = d.1 (sym (k.0 refl))
    go false false d k = refl

abbrev apart : List Text → Bool
apart [] = true
apart (s ∷ rest) = list_all (λ t. not (bytes_eq s t)) rest && apart rest

apart-from : (ss : List Text) → apart ss ≡ true → NoTwo bytes_eq ss
apart-from [] e = tt
apart-from (s ∷ rest) e =
    let q = and_parts _ _ e in
    (all-map (λ t. not (bytes_eq s t) ≡ true) (λ t. bytes_eq s t ≡ false) rest (λ t h. not-true _ h) (all-test (λ t. not (bytes_eq s t)) rest q.0), apart-from rest q.1)

pub symbols-apart : NoTwo bytes_eq symbols
unfolding symbols preset_rows
symbols-apart = apart-from symbols refl

-- ---- a function of the symbols that is changed at one of them

abbrev pub changed : {X : Type 0} → (Text → X) → Text → X → Text → X
changed f t x s = if bytes_eq t s then x else f s

abbrev symbol_of : PresetRow → Text
symbol_of r = r.symbol

others-same : {X : Type 0} (f : Text → X) (t : Text) (x : X) (ss : List Text) → AllByRecursion (λ s. bytes_eq t s ≡ false) ss → map (changed f t x) ss ≡ map f ss
others-same f t x [] h = refl
others-same f t x (s ∷ ss) h = ap₂ (λ y ys. y ∷ ys) (rw h.0 refl) (others-same f t x ss h.1)

abbrev place : Text → List PresetRow → ℕ
place t rows = position_or_len (λ r. bytes_eq r.symbol t) rows

place-within : (t : Text) (rows : List PresetRow) → place t rows ≤ length rows
place-within t [] = omega arith
place-within t (r ∷ rows) =
    let le = place-within t rows in
    cond_both (not (bytes_eq r.symbol t)) (1 + place t rows) 0 (λ k. k ≤ length (r ∷ rows)) (λ b. omega (arith, le)) (λ b. omega arith)

place-end : (t : Text) (rows : List PresetRow) → length rows ≤ place t rows → place t rows ≡ length rows
place-end t rows le = let within = place-within t rows in omega (arith, le, within)

-- no row is of this text
changed-none : {X : Type 0} (f : Text → X) (t : Text) (x : X) (rows : List PresetRow) → place t rows ≡ length rows → map (changed f t x) (map symbol_of rows) ≡ map f (map symbol_of rows)
changed-none f t x [] e = refl
changed-none f t x (r ∷ rows) e = rw (turned t r.symbol) (go (bytes_eq r.symbol t) e (λ q. changed-none f t x rows q))
  where
    go : (b : Bool) → cond (not b) (1 + place t rows) 0 ≡ length (r ∷ rows) → (place t rows ≡ length rows → map (changed f t x) (map symbol_of rows) ≡ map f (map symbol_of rows))
        → ((if b then x else f r.symbol) ∷ map (changed f t x) (map symbol_of rows)) ≡ f r.symbol ∷ map f (map symbol_of rows)
    go true e more = absurd (omega (arith, e))
    go false e more = ap (λ ys. f r.symbol ∷ ys) (more (omega (arith, e)))

set-later : {X : Type 0} (y : X) (ys : List X) (p : ℕ) (x : X) → y ∷ set ys p x ≡ set (y ∷ ys) (1 + p) x
set-later y ys p x = let e : 1 + p ≡ suc p = omega arith in rw e refl

-- one row is
changed-set : {X : Type 0} (f : Text → X) (t : Text) (x : X) (rows : List PresetRow) → NoTwo bytes_eq (map symbol_of rows) → place t rows < length rows
    → map (changed f t x) (map symbol_of rows) ≡ set (map f (map symbol_of rows)) (place t rows) x
changed-set f t x [] a lt = absurd (omega arith)
changed-set f t x (r ∷ rows) a lt = rw (turned t r.symbol) (go (bytes_eq r.symbol t) (bytes_eq-Decides r.symbol t) lt (λ q. changed-set f t x rows a.1 q))
  where
    go : (b : Bool) → Decides b (r.symbol ≡ t) → cond (not b) (1 + place t rows) 0 < length (r ∷ rows)
        → (place t rows < length rows → map (changed f t x) (map symbol_of rows) ≡ set (map f (map symbol_of rows)) (place t rows) x)
        → ((if b then x else f r.symbol) ∷ map (changed f t x) (map symbol_of rows)) ≡ set (f r.symbol ∷ map f (map symbol_of rows)) (cond (not b) (1 + place t rows) 0) x
    go true d lt more = ap (λ ys. x ∷ ys) (others-same f t x (map symbol_of rows) (subst (λ (u : Text). AllByRecursion (λ s. bytes_eq u s ≡ false) (map symbol_of rows)) (d.0 refl) a.0))
    go false d lt more = ap (λ ys. f r.symbol ∷ ys) (more (omega (arith, lt))) ∙ set-later (f r.symbol) (map f (map symbol_of rows)) (place t rows) x

-- the row of a text, and the entries that are changed at it
abbrev pub set_at : {X : Type 0} → List X → Option ℕ → X → List X
set_at xs None x = xs
set_at xs (Some row) x = set xs row x

pub changed-at : {X : Type 0} (f : Text → X) (t : Text) (x : X) → map (changed f t x) symbols ≡ set_at (map f symbols) (row_of t) x
unfolding symbols row_of
changed-at f t x =
    cond_both (nat_lt (place t preset_rows) (length preset_rows)) (Some (place t preset_rows)) None
    (λ (o : Option ℕ). map (changed f t x) (map symbol_of preset_rows) ≡ set_at (map f (map symbol_of preset_rows)) o x)
    (λ e. changed-set f t x preset_rows symbols-apart (ltb-true _ _ e)) (λ e. changed-none f t x preset_rows (place-end t preset_rows (ltb-false _ _ e)))

-- ---- the row of a text that is a symbol

among-printed : (t : Text) (rows : List PresetRow) → AllByRecursion (λ r. is_printable r.symbol ≡ true) rows → place t rows < length rows → is_printable t ≡ true
among-printed t [] h lt = absurd (omega arith)
among-printed t (r ∷ rows) h lt = go (bytes_eq r.symbol t) (bytes_eq-Decides r.symbol t) lt (λ q. among-printed t rows h.1 q)
  where
    go : (b : Bool) → Decides b (r.symbol ≡ t) → cond (not b) (1 + place t rows) 0 < length (r ∷ rows) → (place t rows < length rows → is_printable t ≡ true) → is_printable t ≡ true
    go true d lt more = subst (λ (u : Text). is_printable u ≡ true) (d.0 refl) h.0
    go false d lt more = more (omega (arith, lt))

symbols-printed : AllByRecursion (λ r. is_printable r.symbol ≡ true) preset_rows
unfolding preset_rows
symbols-printed = all-test (λ r. is_printable r.symbol) preset_rows refl

-- a text that is not printable is not a symbol
pub no-symbol : (t : Text) → is_printable t ≡ false → None ≡ row_of t
unfolding row_of
no-symbol t e =
    cond_both (nat_lt (place t preset_rows) (length preset_rows)) (Some (place t preset_rows)) None (λ (o : Option ℕ). None ≡ o)
    (λ lt. let p = among-printed t preset_rows symbols-printed (ltb-true _ _ lt) in cc (e, p)) (λ lt. refl)
