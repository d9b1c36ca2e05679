-- What the entry of a row keeps.
use Rattle.preset_csv.proofs.Words.{◌≡◌, ◌≤◌, ◌==◌, ◌∷◌, ℕ, false, List, [], length, refl, sym, subst, arith, IfOk, Option, Some, None, Result, Ok}
use Rattle.preset_csv.proofs.Words.{Err, ⊤, AllByRecursion, cond_both, eqb-true, Text, is_empty, is_printable, MOST_NATIVES, FormulaView, IsFormula}
use Rattle.preset_csv.proofs.Words.{RefusedFormula, formula_of, same_tokens, AreNatives, FitsKind, IsDef, IsNativeText, InfixJudging, def_entry}
use Rattle.preset_csv.proofs.Words.{formula_entry, has_rate, judged_as, judged_by, kept_entry, kept_natives, typed_entry, Derivation, IsEntry, Entry}
use Rattle.preset_csv.proofs.Words.{PresetCause, Kind, DerivedType}
use Rattle.preset_csv.specs.declared.entry.Entry.TheVariants as entry
use Rattle.preset_csv.specs.declared.fault.PresetCause.TheVariants as cause
use Rattle.preset_csv.specs.declared.kind.Kind.TheVariants as kind
use Rattle.preset_csv.specs.declared.kind.DerivedType.TheVariants as derived
use Rattle.preset_csv.proofs.NativesKept.{IsNative, kept-is, texts-kept}

-- a formula that was read for n natives agrees with them
pub read-agrees : (natives : List Text) (text : Text) (f : FormulaView) → formula_of (length natives) text ≡ Ok f → FitsKind kind.Postfix (Some f) natives
read-agrees natives text f e =
    let t = (same_tokens (length natives) text f).0 e in
    (t.1, subst (λ (n : ℕ). IsFormula n f.tokens) (sym t.1) t.2)

pub def-kept : (natives : List Text) (k : Kind) (f : Option FormulaView) → AreNatives natives → FitsKind k f natives → IsDef (record { kind = k; formula = f; natives = natives })
def-kept natives k f ready agrees = record { each = ready.each; some = ready.some; few = ready.few; agrees = agrees }

abbrev pub Keeps : Result Entry PresetCause → Type 0
Keeps (Ok e) = IsEntry e
Keeps (Err why) = ⊤

-- the entry of a formula that agrees with the natives
pub formula-kept : (natives : List Text) (o : Result FormulaView RefusedFormula) → AreNatives natives → ((f : FormulaView) → o ≡ Ok f → FitsKind kind.Postfix (Some f) natives) → Keeps (formula_entry natives o)
formula-kept natives (Ok f) ready agrees = def-kept natives kind.Postfix (Some f) ready (agrees f refl)
formula-kept natives (Err refused) ready agrees = tt

-- the entries of formulas in infix order can stand in a table
abbrev pub InfixKept : InfixJudging → Type 0
InfixKept judge = (formula : Text) (natives : List Text) → AreNatives natives → Keeps (judge formula natives)

typed-kept : (judge : InfixJudging) → InfixKept judge → (t : DerivedType) (formula : Text) (natives : List Text) → AreNatives natives → Keeps (typed_entry judge t formula natives)
typed-kept judge k derived.NotDerived formula natives ready =
    cond_both (length natives == 1) (Ok (def_entry kind.NotDerived None natives)) (Ok entry.Uncomputed) Keeps (λ e. def-kept natives kind.NotDerived None ready (eqb-true (length natives) 1 e)) (λ e. tt)
typed-kept judge k derived.Add formula natives ready = def-kept natives kind.Add None ready tt
typed-kept judge k derived.Sub formula natives ready = def-kept natives kind.Sub None ready tt
typed-kept judge k derived.Postfix formula natives ready =
    cond_both (has_rate formula) (Ok entry.Uncomputed) (formula_entry natives (formula_of (length natives) formula)) Keeps (λ b. tt)
    (λ b. formula-kept natives (formula_of (length natives) formula) ready (read-agrees natives formula))
typed-kept judge k derived.Infix formula natives ready = k formula natives ready
typed-kept judge k t formula natives ready = tt

some-natives : (natives : List Text) → is_empty natives ≡ false → 1 ≤ length natives
some-natives [] e = cc e
some-natives (t ∷ rest) e = omega arith

entry-kept : (judge : InfixJudging) → InfixKept judge → (t : DerivedType) (formula : Text) (natives : Result (List Text) PresetCause)
    → IfOk natives (λ kept. AllByRecursion IsNativeText kept × (length kept ≤ MOST_NATIVES)) → Keeps (kept_entry judge t formula natives)
entry-kept judge k t formula (Ok natives) h =
    cond_both (is_empty natives) (Ok entry.Uncomputed) (typed_entry judge t formula natives) Keeps (λ e. tt)
    (λ e. typed-kept judge k t formula natives (record { each = h.0; some = some-natives natives e; few = h.1 }))
entry-kept judge k t formula (Err why) h = tt

as-kept : (judge : InfixJudging) → InfixKept judge → (t : Option DerivedType) (formula : Text) (natives : List Text) → AllByRecursion IsNative natives → Keeps (judged_as judge t formula natives)
as-kept judge k None formula natives h = tt
as-kept judge k (Some t) formula natives h =
    cond_both (is_printable formula) (kept_entry judge t formula (kept_natives natives)) (Err cause.BadField) Keeps (λ b. entry-kept judge k t formula (kept_natives natives) (texts (kept_natives natives) refl)) (λ b. tt)
  where
    texts : (o : Result (List Text) PresetCause) → kept_natives natives ≡ o → IfOk o (λ kept. AllByRecursion IsNativeText kept × (length kept ≤ MOST_NATIVES))
    texts (Ok kept) e = let i = kept-is natives kept e in (subst (AllByRecursion IsNativeText) i.0 (texts-kept natives h i.1), i.2)
    texts (Err why) e = tt

-- the entry of a row whose natives are fields
pub judged-kept : (judge : InfixJudging) → InfixKept judge → (r : Derivation) → AllByRecursion IsNative r.natives → Keeps (judged_by judge r)
unfolding judged_by
judged-kept judge k r h = as-kept judge k r.derived_type r.formula r.natives h
