-- No row gives a missing entry.
use Rattle.user_events.proofs.Words.{List, length, Option, Some, None, Result, Ok, Err, cond_both, ⊤, ◌==◌, Text, is_empty, is_printable, FormulaView}
use Rattle.user_events.proofs.Words.{infix_of, RefusedFormula, formula_of, def_entry, formula_entry, judged_as, judged_by, kept_entry, kept_natives}
use Rattle.user_events.proofs.Words.{typed_entry, Derivation, Entry, PresetCause, DerivedType, event_judged, has_rate, infix_entry, IsPresent}
use Rattle.preset_csv.specs.Entries as Presets
use Rattle.preset_csv.specs.declared.entry.Entry.TheVariants as entry
use Rattle.preset_csv.specs.declared.fault.PresetCause.TheVariants as cause
use Rattle.preset_csv.specs.declared.kind.DerivedType.TheVariants as derived
use Rattle.preset_csv.specs.declared.kind.Kind.TheVariants as kind

abbrev pub Gives : Result Entry PresetCause → Type 0
Gives (Ok e) = IsPresent e
Gives (Err why) = ⊤

formula-gives : (natives : List Text) (o : Result FormulaView RefusedFormula) → Gives (formula_entry natives o)
formula-gives natives (Ok f) = tt
formula-gives natives (Err refused) = tt

typed-gives : (t : DerivedType) (formula : Text) (natives : List Text) → Gives (typed_entry infix_entry t formula natives)
typed-gives derived.NotDerived formula natives = cond_both (length natives == 1) (Ok (def_entry kind.NotDerived None natives)) (Ok entry.Uncomputed) Gives (λ b. tt) (λ b. tt)
typed-gives derived.Postfix formula natives =
    cond_both (Presets.has_rate formula) (Ok entry.Uncomputed) (formula_entry natives (formula_of (length natives) formula)) Gives (λ b. tt) (λ b. formula-gives natives (formula_of (length natives) formula))
typed-gives derived.Infix formula natives =
    cond_both (has_rate formula) (Ok entry.Uncomputed) (formula_entry natives (infix_of (length natives) formula)) Gives (λ b. tt) (λ b. formula-gives natives (infix_of (length natives) formula))
typed-gives t formula natives = tt

natives-give : (t : DerivedType) (formula : Text) (natives : Result (List Text) PresetCause) → Gives (kept_entry infix_entry t formula natives)
natives-give t formula (Ok natives) = cond_both (is_empty natives) (Ok entry.Uncomputed) (typed_entry infix_entry t formula natives) Gives (λ b. tt) (λ b. typed-gives t formula natives)
natives-give t formula (Err why) = tt

type-gives : (t : Option DerivedType) (formula : Text) (natives : List Text) → Gives (judged_as infix_entry t formula natives)
type-gives None formula natives = tt
type-gives (Some t) formula natives =
    cond_both (is_printable formula) (kept_entry infix_entry t formula (kept_natives natives)) (Err cause.BadField) Gives (λ b. natives-give t formula (kept_natives natives)) (λ b. tt)

pub event-gives : (r : Derivation) → Gives (event_judged r)
unfolding judged_by
event-gives r = type-gives r.derived_type r.formula r.natives
