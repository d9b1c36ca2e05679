-- A written row reads back as its entry.
use Rattle.preset_csv.proofs.Words.{◌≡◌, ◌∙◌, ◌≤◌, ◌<◌, ◌^◌, ◌∷◌, ◌++◌, ℕ, false, List, [], length, map, refl, ap, subst, arith, nat_lt, codes}
use Rattle.preset_csv.proofs.Words.{Option, Some, None, Ok, AllByRecursion, BeginsPlain, IsPlainField, IsPlainRow, Text, is_empty, text_at, trimmed}
use Rattle.preset_csv.proofs.Words.{all-map, MOST_NATIVES, FormulaView, formula_of, formula_text, written_read, DefView, FitsKind, IsDef}
use Rattle.preset_csv.proofs.Words.{IsNativeText, InfixJudging, judged_by, kind_text, type_of, Derivation, cpu, derivation, derivation_of, line_of}
use Rattle.preset_csv.proofs.Words.{gives, natives_in, preset, formula_fields, Kind, DerivedType}
use Rattle.std.proofs.lemmas.Bool.{le-ltb, eq-eqb}
use Rattle.preset_csv.specs.declared.entry.Entry.TheVariants as entry
use Rattle.preset_csv.specs.declared.kind.Kind.TheVariants as kind
use Rattle.preset_csv.specs.declared.kind.DerivedType.TheVariants as derived
use Rattle.preset_csv.proofs.Fields.{IsGood, formula-ink, ink-good, ink-printed, kind-good, natives-back, natives-good, natives-printed, no-rate, trims, word-good}

abbrev pub kind_type : Kind → DerivedType
kind_type kind.NotDerived = derived.NotDerived
kind_type kind.Add = derived.Add
kind_type kind.Sub = derived.Sub
kind_type kind.Postfix = derived.Postfix

abbrev pub written_formula : Option FormulaView → Text
written_formula None = []
written_formula (Some f) = formula_text f.tokens

-- the row that a written entry reads back as
abbrev pub def_row : Text → Kind → Option FormulaView → List Text → Derivation
def_row s k f natives = record { symbol = s; derived_type = Some (kind_type k); formula = written_formula f; natives = natives }

abbrev pub rest_row : Text → Derivation
rest_row s = record { symbol = s; derived_type = Some derived.Cmpd; formula = []; natives = [] }

abbrev pub row_fields : Text → Kind → Option FormulaView → List Text → List Text
row_fields s k f natives = codes "PRESET" ∷ s ∷ kind_text k ∷ (formula_fields f ++ natives)

abbrev pub rest_fields : Text → List Text
rest_fields s = codes "PRESET" ∷ s ∷ codes "DERIVED_CMPD" ∷ []

-- ---- the fields are good

small : (f : FormulaView) (natives : List Text) → length natives ≤ MOST_NATIVES → f.natives ≡ length natives → f.natives < 2 ^ 32
small f natives few is = omega (arith, few, is)

pub text-good : (f : FormulaView) (natives : List Text) → length natives ≤ MOST_NATIVES → FitsKind kind.Postfix (Some f) natives → IsGood (formula_text f.tokens)
text-good f natives few agrees = ink-good (formula_text f.tokens) (formula-ink f (small f natives few agrees.0) agrees.1)

pub formula-good : (k : Kind) (f : Option FormulaView) (natives : List Text) → AllByRecursion IsNativeText natives → length natives ≤ MOST_NATIVES
    → FitsKind k f natives → AllByRecursion IsGood (formula_fields f ++ natives)
formula-good k None natives each few agrees = natives-good natives each
formula-good kind.Postfix (Some f) natives each few agrees = (text-good f natives few agrees, natives-good natives each)
formula-good k (Some f) natives each few agrees = absurd agrees

pub def-good : (s : Text) (d : DefView) → IsGood s → IsDef d → AllByRecursion IsGood (row_fields s d.kind d.formula d.natives)
def-good s d g h = (word-good (codes "PRESET") refl, (g, (kind-good d.kind, formula-good d.kind d.formula d.natives h.each h.few h.agrees)))

pub rest-good : (s : Text) → IsGood s → AllByRecursion IsGood (rest_fields s)
rest-good s g = (word-good (codes "PRESET") refl, (g, (word-good (codes "DERIVED_CMPD") refl, tt)))

pub good-plain : (fields : List Text) → AllByRecursion IsGood fields → BeginsPlain fields → IsPlainRow fields
good-plain fields h b = (all-map IsGood IsPlainField fields (λ t g. g.0) h, b)

-- ---- the row by itself

pub first-good : (t : Text) (rest : List Text) → IsGood t → text_at (t ∷ rest) 0 ≡ t
unfolding text_at
first-good t rest g = g.1

pub second-good : (a t : Text) (rest : List Text) → IsGood t → text_at (a ∷ t ∷ rest) 1 ≡ t
unfolding text_at
second-good a t rest g = g.1

pub third-good : (a b t : Text) (rest : List Text) → IsGood t → text_at (a ∷ b ∷ t ∷ rest) 2 ≡ t
unfolding text_at
third-good a b t rest g = g.1

pub fourth-good : (a b c t : Text) (rest : List Text) → IsGood t → text_at (a ∷ b ∷ c ∷ t ∷ rest) 3 ≡ t
unfolding text_at
fourth-good a b c t rest g = g.1

pub preset-line : (rest : List Text) → line_of (codes "PRESET" ∷ rest) ≡ gives preset (derivation_of (codes "PRESET" ∷ rest))
unfolding line_of
preset-line rest = rw (first-good (codes "PRESET") rest (word-good (codes "PRESET") refl)) refl

pub cpu-begins : (rest : List Text) → line_of (codes "CPU" ∷ rest) ≡ cpu (text_at (codes "CPU" ∷ rest) 1)
unfolding line_of
cpu-begins rest = rw (first-good (codes "CPU") rest (word-good (codes "CPU") refl)) refl

pub cpu-line : (name : Text) → IsGood name → line_of (codes "CPU" ∷ name ∷ []) ≡ cpu name
cpu-line name g = cpu-begins (name ∷ []) ∙ ap cpu (second-good (codes "CPU") name [] g)

pub type-back : (k : Kind) → type_of (kind_text k) ≡ Some (kind_type k)
unfolding type_of
type-back kind.NotDerived = refl
type-back k = refl

pub natives-read : (natives : List Text) → AllByRecursion IsNativeText natives → natives_in (map trimmed natives) ≡ natives
natives-read natives each = ap natives_in (trims natives (natives-good natives each)) ∙ natives-back natives each

typed-row : (s : Text) (k : Kind) (f : Option FormulaView) (natives : List Text) → IsGood s → AllByRecursion IsNativeText natives → length natives ≤ MOST_NATIVES → FitsKind k f natives
    → derivation (row_fields s k f natives) (Some (kind_type k)) ≡ def_row s k f natives
typed-row s kind.Postfix None natives g each few agrees = absurd agrees
typed-row s kind.Postfix (Some f) natives g each few agrees =
    rw (
      second-good (codes "PRESET") s (codes "DERIVED_POSTFIX" ∷ formula_text f.tokens ∷ natives) g,
      fourth-good (codes "PRESET") s (codes "DERIVED_POSTFIX") (formula_text f.tokens) natives (text-good f natives few agrees),
      natives-read natives each,
    ) refl
typed-row s k None natives g each few agrees = rw (second-good (codes "PRESET") s (kind_text k ∷ natives) g, natives-read natives each) refl
typed-row s k (Some f) natives g each few agrees = absurd agrees

pub def-line : (s : Text) (d : DefView) → IsGood s → IsDef d → line_of (row_fields s d.kind d.formula d.natives) ≡ gives preset (def_row s d.kind d.formula d.natives)
unfolding derivation_of
def-line s d g h =
    let fields = row_fields s d.kind d.formula d.natives in
    let type_is = third-good (codes "PRESET") s (kind_text d.kind) (formula_fields d.formula ++ d.natives) (kind-good d.kind) in
    preset-line (s ∷ kind_text d.kind ∷ (formula_fields d.formula ++ d.natives))
    ∙ ap (gives preset) (ap (λ (t : Text). derivation fields (type_of t)) type_is ∙ ap (derivation fields) (type-back d.kind) ∙ typed-row s d.kind d.formula d.natives g h.each h.few h.agrees)

pub rest-line : (s : Text) → IsGood s → line_of (rest_fields s) ≡ gives preset (rest_row s)
unfolding derivation_of type_of natives_in
rest-line s g =
    preset-line (s ∷ codes "DERIVED_CMPD" ∷ [])
    ∙ ap (gives preset) (rw (third-good (codes "PRESET") s (codes "DERIVED_CMPD") [] (word-good (codes "DERIVED_CMPD") refl), second-good (codes "PRESET") s (codes "DERIVED_CMPD" ∷ []) g) refl)

-- ---- the row's judgement

filled : (natives : List Text) → 1 ≤ length natives → is_empty natives ≡ false
filled [] h = absurd (omega arith)
filled (t ∷ rest) h = refl

eight : (natives : List Text) → length natives ≤ MOST_NATIVES → nat_lt MOST_NATIVES (length natives) ≡ false
eight natives h = le-ltb MOST_NATIVES (length natives) h

judged-plain : (judge : InfixJudging) (s : Text) (k : Kind) (natives : List Text) → AllByRecursion IsNativeText natives → 1 ≤ length natives → length natives ≤ MOST_NATIVES → FitsKind k None natives
    → judged_by judge (def_row s k None natives) ≡ Ok (entry.Def (record { kind = k; formula = None; natives = natives }))
unfolding judged_by
judged-plain judge s kind.NotDerived natives each some few agrees = rw (natives-printed natives each, eight natives few, filled natives some, eq-eqb (length natives) 1 agrees) refl
judged-plain judge s kind.Postfix natives each some few agrees = absurd agrees
judged-plain judge s k natives each some few agrees = rw (natives-printed natives each, eight natives few, filled natives some) refl

judged-postfix : (judge : InfixJudging) (s : Text) (f : FormulaView) (natives : List Text) → AllByRecursion IsNativeText natives → 1 ≤ length natives → length natives ≤ MOST_NATIVES → FitsKind kind.Postfix (Some f) natives
    → judged_by judge (def_row s kind.Postfix (Some f) natives) ≡ Ok (entry.Def (record { kind = kind.Postfix; formula = Some f; natives = natives }))
unfolding judged_by
judged-postfix judge s f natives each some few agrees =
    let lt = small f natives few agrees.0 in
    let written = formula-ink f lt agrees.1 in
    let read : formula_of (length natives) (formula_text f.tokens) ≡ Ok f = subst (λ (n : ℕ). formula_of n (formula_text f.tokens) ≡ Ok f) agrees.0 (written_read f lt agrees.1) in
    rw (ink-printed (formula_text f.tokens) written, natives-printed natives each, eight natives few, filled natives some, no-rate (formula_text f.tokens) written, read) refl

pub def-judged : (judge : InfixJudging) (s : Text) (d : DefView) → IsDef d → judged_by judge (def_row s d.kind d.formula d.natives) ≡ Ok (entry.Def d)
def-judged judge s d h = go d.kind d.formula d.natives h.each h.some h.few h.agrees
  where
    go : (k : Kind) (f : Option FormulaView) (natives : List Text) → AllByRecursion IsNativeText natives → 1 ≤ length natives → length natives ≤ MOST_NATIVES → FitsKind k f natives
        → judged_by judge (def_row s k f natives) ≡ Ok (entry.Def (record { kind = k; formula = f; natives = natives }))
    go k None natives each some few agrees = judged-plain judge s k natives each some few agrees
    go kind.Postfix (Some f) natives each some few agrees = judged-postfix judge s f natives each some few agrees
    go k (Some f) natives each some few agrees = absurd agrees

pub rest-judged : (judge : InfixJudging) (s : Text) → judged_by judge (rest_row s) ≡ Ok entry.Uncomputed
unfolding judged_by
rest-judged judge s = refl
