-- The fields of written rows: none of their bytes ends a field or a row, and they have no blanks at their ends.
use Rattle.preset_csv.proofs.Words.{◌≡◌, ◌≤◌, ◌<◌, ◌^◌, ◌==◌, ◌∷◌, ℕ, Bool, true, false, not, List, [], map, refl, ap₂, subst, sym, arith, tests}
use Rattle.preset_csv.proofs.Words.{nat_le, codes, ◌&&◌, ◌||◌, bytes_eq, AllByRecursion, list_all, list_any, onto_first, slice_split, and_parts}
use Rattle.preset_csv.proofs.Words.{cond_both, eqb-true, not-true, bytes_eq-Decides, IsInner, IsPlainField, Text, is_blank, is_printable, trimmed}
use Rattle.preset_csv.proofs.Words.{all-map, trimmed-plain, is_digit, FormulaView, IsFormula, formula_text, is_formula_byte, written_bytes}
use Rattle.preset_csv.proofs.Words.{preset_rows, IsNativeText, has_rate, kind_text, natives_in, is_field, is_field_byte, symbols, Kind}
use Rattle.preset_csv.specs.declared.kind.Kind.TheVariants as kind
use Rattle.preset_csv.proofs.SymbolRows.{all-test, test-all}

-- a field that is read as it was written
abbrev pub IsGood : Text → Type 0
IsGood t = IsPlainField t × (trimmed t ≡ t)

-- ---- words: printable, with no blank, no comma and no `#`

abbrev pub IsInk : ℕ → Type 0
IsInk b = (33 ≤ b) × (b ≤ 126) × ((b == 44) ≡ false) × ((b == 35) ≡ false)

abbrev ink : ℕ → Bool
ink b = nat_le 33 b && (nat_le b 126 && (not (b == 44) && not (b == 35)))

ink-from : (b : ℕ) → ink b ≡ true → IsInk b
ink-from b e =
    let p = and_parts (nat_le 33 b) (nat_le b 126 && (not (b == 44) && not (b == 35))) e in
    let q = and_parts (nat_le b 126) (not (b == 44) && not (b == 35)) p.1 in
    let r = and_parts (not (b == 44)) (not (b == 35)) q.1 in
    (grind (arith, tests, p.0), grind (arith, tests, q.0), not-true _ r.0, not-true _ r.1)

word-ink : (t : Text) → list_all ink t ≡ true → AllByRecursion IsInk t
word-ink t e = all-map (λ b. ink b ≡ true) IsInk t ink-from (all-test ink t e)

ink-inner : (b : ℕ) → IsInk b → IsInner b
ink-inner b h = (h.2, grind (arith, tests, h.0), grind (arith, tests, h.0))

ink-blank : (b : ℕ) → IsInk b → is_blank b ≡ false
ink-blank b h = grind (arith, tests, h.0)

ink-printable : (b : ℕ) → IsInk b → (nat_le 32 b && nat_le b 126) ≡ true
ink-printable b h = grind (arith, tests, h.0, h.1)

pub ink-good : (t : Text) → AllByRecursion IsInk t → IsGood t
ink-good t h = (all-map IsInk IsInner t ink-inner h, trimmed-plain t (all-map IsInk (λ b. is_blank b ≡ false) t ink-blank h))

pub ink-printed : (t : Text) → AllByRecursion IsInk t → is_printable t ≡ true
ink-printed t h = test-all (λ b. nat_le 32 b && nat_le b 126) t (all-map IsInk (λ b. (nat_le 32 b && nat_le b 126) ≡ true) t ink-printable h)

pub word-good : (t : Text) → list_all ink t ≡ true → IsGood t
word-good t e = ink-good t (word-ink t e)

pub kind-good : (k : Kind) → IsGood (kind_text k)
kind-good kind.NotDerived = word-good (codes "NOT_DERIVED") refl
kind-good kind.Add = word-good (codes "DERIVED_ADD") refl
kind-good kind.Sub = word-good (codes "DERIVED_SUB") refl
kind-good kind.Postfix = word-good (codes "DERIVED_POSTFIX") refl

pub symbols-good : AllByRecursion IsGood symbols
unfolding symbols preset_rows
symbols-good = all-map (λ s. list_all ink s ≡ true) IsGood symbols word-good (all-test (λ s. list_all ink s) symbols refl)

-- ---- other texts

inner-from : (b : ℕ) → (nat_le 32 b && nat_le b 126) ≡ true → not (b == 44) ≡ true → IsInner b
inner-from b p c =
    let q = (and_parts (nat_le 32 b) (nat_le b 126) p).0 in
    (not-true _ c, grind (arith, tests, q), grind (arith, tests, q))

inner-all : (t : Text) → is_printable t ≡ true → list_all (λ b. not (b == 44)) t ≡ true → IsPlainField t
inner-all [] p c = tt
inner-all (b ∷ t) p c =
    let q = and_parts _ _ p in
    let d = and_parts _ _ c in
    (inner-from b q.0 d.0, inner-all t q.1 d.1)

native-good : (t : Text) → IsNativeText t → IsGood t
native-good t h = (inner-all t h.printable h.no_comma, h.whole)

pub natives-good : (natives : List Text) → AllByRecursion IsNativeText natives → AllByRecursion IsGood natives
natives-good natives h = all-map IsNativeText IsGood natives native-good h

pub natives-printed : (natives : List Text) → AllByRecursion IsNativeText natives → list_all is_printable natives ≡ true
natives-printed natives h = test-all is_printable natives (all-map IsNativeText (λ t. is_printable t ≡ true) natives (λ t k. k.printable) h)

pub trims : (fields : List Text) → AllByRecursion IsGood fields → map trimmed fields ≡ fields
trims [] h = refl
trims (t ∷ rest) h = ap₂ (λ (x : Text) (xs : List Text). x ∷ xs) h.0.1 (trims rest h.1)

pub natives-back : (natives : List Text) → AllByRecursion IsNativeText natives → natives_in natives ≡ natives
unfolding natives_in
natives-back [] h = refl
natives-back (t ∷ rest) h = rw (h.0.goes_on, natives-back rest h.1) refl

byte-inner : (b : ℕ) → is_field_byte b ≡ true → IsInner b
byte-inner b e =
    let p = and_parts (not (b == 44)) (not (b == 13) && not (b == 10)) e in
    let q = and_parts (not (b == 13)) (not (b == 10)) p.1 in
    (not-true _ p.0, not-true _ q.0, not-true _ q.1)

-- a name that can stand in a field
pub field-good : (t : Text) → is_field t ≡ true → IsGood t
unfolding is_field
field-good t e =
    let p = and_parts (list_all is_field_byte t) (bytes_eq (trimmed t) t) e in
    (all-map (λ b. is_field_byte b ≡ true) IsInner t byte-inner (all-test is_field_byte t p.0), (bytes_eq-Decides (trimmed t) t).0 p.1)

-- ---- formulas

either : (x y : Bool) (P : Type 0) → (x ≡ true → P) → (y ≡ true → P) → (x || y) ≡ true → P
either true y P f g e = f refl
either false y P f g e = g e

is-byte : (b k : ℕ) → (b == k) ≡ true → ink k ≡ true → IsInk b
is-byte b k e i = subst IsInk (sym (eqb-true b k e)) (ink-from k i)

digit-ink : (b : ℕ) → is_digit b ≡ true → IsInk b
digit-ink b e =
    let p = and_parts (nat_le 48 b) (nat_le b 57) e in
    (grind (arith, tests, p.0), grind (arith, tests, p.1), grind (arith, tests, p.0), grind (arith, tests, p.0))

formula-byte : (b : ℕ) → is_formula_byte b ≡ true → IsInk b
formula-byte b e =
    either _ _ (IsInk b) (digit-ink b)
    (either _ _ (IsInk b) (λ q. is-byte b 78 q refl)
    (either _ _ (IsInk b) (λ q. is-byte b 124 q refl)
    (either _ _ (IsInk b) (λ q. is-byte b 43 q refl)
    (either _ _ (IsInk b) (λ q. is-byte b 45 q refl)
    (either _ _ (IsInk b) (λ q. is-byte b 42 q refl) (λ q. is-byte b 47 q refl)))))) e

pub formula-ink : (f : FormulaView) → f.natives < 2 ^ 32 → IsFormula f.natives f.tokens → AllByRecursion IsInk (formula_text f.tokens)
formula-ink f lt h = all-map (λ b. is_formula_byte b ≡ true) IsInk (formula_text f.tokens) formula-byte (all-test is_formula_byte (formula_text f.tokens) (written_bytes f lt h).1)

-- no part of such a text is `#`
abbrev AllInk : List Text → Type 0
AllInk parts = AllByRecursion (λ p. AllByRecursion IsInk p) parts

onto-ink : (b : ℕ) (parts : List Text) → IsInk b → AllInk parts → AllInk (onto_first b parts)
onto-ink b [] h k = ((h, tt), tt)
onto-ink b (p ∷ parts) h k = ((h, k.0), k.1)

parts-ink : (t : Text) → AllByRecursion IsInk t → AllInk (slice_split (λ b. b == 124) t)
parts-ink [] h = (tt, tt)
parts-ink (b ∷ t) h =
    let k = parts-ink t h.1 in
    cond_both (b == 124) ([] ∷ slice_split (λ b. b == 124) t) (onto_first b (slice_split (λ b. b == 124) t)) AllInk (λ e. (tt, k)) (λ e. onto-ink b _ h.0 k)

no-mark : (t : Text) → AllByRecursion IsInk t → bytes_eq (trimmed t) (codes "#") ≡ false
no-mark t h = rw ((ink-good t h).1) (go t h)
  where
    go : (u : Text) → AllByRecursion IsInk u → bytes_eq u (codes "#") ≡ false
    go [] k = refl
    go (b ∷ u) k = rw k.0.3 refl

no-marks : (parts : List Text) → AllInk parts → list_any (λ p. bytes_eq (trimmed p) (codes "#")) parts ≡ false
no-marks [] h = refl
no-marks (p ∷ parts) h = rw (no-mark p h.0) (no-marks parts h.1)

pub no-rate : (t : Text) → AllByRecursion IsInk t → has_rate t ≡ false
unfolding has_rate
no-rate t h = no-marks _ (parts-ink t h)
