-- In a file without EVENT rows and formulas in infix order the presets are those of a file of presets alone.
use Rattle.std.specs.Prelude.{◌≡◌, ⊤, ℕ, List, [], Some}
use Rattle.std.specs.List.{AllByRecursion}
use Rattle.table_rows.specs.Texts.{Text}
use Rattle.preset_csv.specs.Lines.{Derivation, Line, event, gives, preset}
use Rattle.preset_csv.specs.Presets.{preset_fault, presets_in}
use Rattle.preset_csv.specs.declared.kind.DerivedType.TheVariants as derived
use Rattle.user_events.specs.Lines.{lines_of}
use Rattle.user_events.specs.Rows.{extended_fault, extended_in}

-- a row with no formula in infix order
abbrev pub IsOrdinary : Derivation → Type 0
IsOrdinary r = r.derived_type ≡ Some derived.Infix → ⊥

-- a row that is not an EVENT row and has no formula in infix order
abbrev pub IsOfPresets : Line → Type 0
IsOfPresets (gives preset r) = IsOrdinary r
IsOfPresets (gives event r) = ⊥
IsOfPresets line = ⊤

-- such a file has the same first fault, the same presets, and no events
abbrev pub ReadsAsPresets : Type 0
ReadsAsPresets =
    (name : Text) (bytes : List ℕ) → AllByRecursion IsOfPresets (lines_of bytes)
    → (extended_fault name bytes ≡ preset_fault name bytes) × ((extended_in name bytes).presets ≡ presets_in name bytes)
    × ((extended_in name bytes).events ≡ [])
