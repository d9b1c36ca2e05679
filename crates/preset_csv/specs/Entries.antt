-- The entry that a row gives, or why the row is refused: papi_events.csv, with at most MOST_NATIVES natives.
use Rattle.std.specs.Prelude.{◌==◌, Bool, List, length, Option, Some, None, Result, Ok, Err, if◌then◌else◌, nat_lt, not, codes}
use Rattle.std.specs.List.{list_all, list_any, slice_split}
use Rattle.std.specs.Str.{bytes_eq}
use Rattle.table_rows.specs.Texts.{Text, is_empty, is_printable, trimmed}
use Rattle.postfix_rules.specs.declared.derived.TheConstants.{MOST_NATIVES}
use Rattle.postfix_rules.specs.Faults.{FormulaView}
use Rattle.postfix_rules.specs.Reading.{RefusedFormula, formula_of}
use Rattle.preset_csv.specs.Lines.{Derivation}
use Rattle.preset_csv.specs.declared.entry.Entry.{Entry}
use Rattle.preset_csv.specs.declared.entry.Entry.TheVariants as entry
use Rattle.preset_csv.specs.declared.fault.PresetCause.{PresetCause}
use Rattle.preset_csv.specs.declared.fault.PresetCause.TheVariants as cause
use Rattle.preset_csv.specs.declared.kind.Kind.{Kind}
use Rattle.preset_csv.specs.declared.kind.Kind.TheVariants as kind
use Rattle.preset_csv.specs.declared.kind.DerivedType.{DerivedType}
use Rattle.preset_csv.specs.declared.kind.DerivedType.TheVariants as derived

-- a token of the formula is `#`, which is not computed
unfoldable pub has_rate : Text → Bool
has_rate formula = list_any (λ p. bytes_eq (trimmed p) (codes "#")) (slice_split (λ b. b == 124) formula)

-- an entry that is computed
abbrev pub def_entry : Kind → Option FormulaView → List Text → Entry
def_entry k formula natives = entry.Def (record { kind = k; formula = formula; natives = natives })

-- the entry of a row with this formula, or why the row is refused
abbrev pub formula_entry : List Text → Result FormulaView RefusedFormula → Result Entry PresetCause
formula_entry natives (Ok formula) = Ok (def_entry kind.Postfix (Some formula) natives)
formula_entry natives (Err refused) = Err (cause.BadFormula refused.cause)

-- how the entry of a formula in infix order and of one or more natives is judged
abbrev pub InfixJudging : Type 0
InfixJudging = Text → List Text → Result Entry PresetCause

-- in a file of presets alone such a formula is not computed
abbrev pub uncomputed : InfixJudging
uncomputed formula natives = Ok entry.Uncomputed

-- the entry of a formula and of one or more natives, by the derived type
abbrev pub typed_entry : InfixJudging → DerivedType → Text → List Text → Result Entry PresetCause
typed_entry judge derived.NotDerived formula natives = if length natives == 1 then Ok (def_entry kind.NotDerived None natives) else Ok entry.Uncomputed
typed_entry judge derived.Add formula natives = Ok (def_entry kind.Add None natives)
typed_entry judge derived.Sub formula natives = Ok (def_entry kind.Sub None natives)
typed_entry judge derived.Postfix formula natives = if has_rate formula then Ok entry.Uncomputed else formula_entry natives (formula_of (length natives) formula)
typed_entry judge derived.Infix formula natives = judge formula natives
typed_entry judge t formula natives = Ok entry.Uncomputed

-- the natives of a row, if each is printable and there are not too many; a field that is refused takes precedence over the limit
abbrev pub kept_natives : List Text → Result (List Text) PresetCause
kept_natives natives =
    if not (list_all is_printable natives) then Err cause.BadField
    else if nat_lt MOST_NATIVES (length natives) then Err cause.OverLimit
    else Ok natives

-- what is not computed takes precedence over a broken formula
abbrev pub kept_entry : InfixJudging → DerivedType → Text → Result (List Text) PresetCause → Result Entry PresetCause
kept_entry judge t formula (Ok natives) = if is_empty natives then Ok entry.Uncomputed else typed_entry judge t formula natives
kept_entry judge t formula (Err why) = Err why

-- the entry of a row of this type, or why the row is refused
abbrev pub judged_as : InfixJudging → Option DerivedType → Text → List Text → Result Entry PresetCause
judged_as judge None formula natives = Err cause.BadField
judged_as judge (Some t) formula natives = if is_printable formula then kept_entry judge t formula (kept_natives natives) else Err cause.BadField

-- the entry of a row, or its first cause
unfoldable pub judged_by : InfixJudging → Derivation → Result Entry PresetCause
judged_by judge r = judged_as judge r.derived_type r.formula r.natives

-- the same in a file of presets alone
abbrev pub judged : Derivation → Result Entry PresetCause
judged = judged_by uncomputed
