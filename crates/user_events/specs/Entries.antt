-- The entry that a row gives, if formulas may be in infix order: papi_events.csv.
use Rattle.std.specs.Prelude.{◌==◌, Bool, List, length, Result, Ok, if◌then◌else◌}
use Rattle.std.specs.List.{list_any}
use Rattle.table_rows.specs.Texts.{Text}
use Rattle.postfix_rules.specs.InfixReading.{infix_of}
use Rattle.preset_csv.specs.Entries.{formula_entry, judged_by}
use Rattle.preset_csv.specs.Lines.{Derivation}
use Rattle.preset_csv.specs.declared.entry.Entry.{Entry}
use Rattle.preset_csv.specs.declared.entry.Entry.TheVariants as entry
use Rattle.preset_csv.specs.declared.fault.PresetCause.{PresetCause}

-- the formula has a `#`, which is not computed
abbrev pub has_rate : Text → Bool
has_rate formula = list_any (λ b. b == 35) formula

-- the entry of a formula in infix order and of one or more natives: that of the tree that it writes by the grammar, or its first fault
-- (`EntriesAreByGrammar`, which `grammar_law` proves)
abbrev pub infix_entry : Text → List Text → Result Entry PresetCause
infix_entry formula natives = if has_rate formula then Ok entry.Uncomputed else formula_entry natives (infix_of (length natives) formula)

-- the entry of a row, or its first cause: as in a file of presets alone, but if the formula is in infix order
abbrev pub event_judged : Derivation → Result Entry PresetCause
event_judged = judged_by infix_entry
