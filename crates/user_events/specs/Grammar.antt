-- The entry of a formula in infix order, in the words of the formula's grammar: papi_events.csv.
use Rattle.std.specs.Prelude.{◌≡◌, ◌↔◌, ℕ, false, List, length, Some, Ok, Err}
use Rattle.table_rows.specs.Texts.{Text}
use Rattle.postfix_rules.specs.Faults.{FormulaView}
use Rattle.postfix_rules.specs.InfixFaults.{IsInfixFault, WritesTree}
use Rattle.postfix_rules.specs.InfixTokens.{infix_parts}
use Rattle.postfix_rules.specs.Trees.{Tree, spelling}
use Rattle.postfix_rules.specs.declared.fault.FormulaCause.{FormulaCause}
use Rattle.preset_csv.specs.Entries.{def_entry}
use Rattle.preset_csv.specs.declared.fault.PresetCause.TheVariants.{BadFormula}
use Rattle.preset_csv.specs.declared.kind.Kind.TheVariants as kind
use Rattle.user_events.specs.Entries.{has_rate, infix_entry}

-- The entry has a formula exactly if the text writes a tree by the grammar, which the formula's tokens spell, and is refused exactly
-- for the cause of the text's first fault.
pub record IsByGrammar (formula : Text) (natives : List Text) : Type 0 where
  pub computed : (f : FormulaView)
      → (infix_entry formula natives ≡ Ok (def_entry kind.Postfix (Some f) natives))
      ↔ ((tree : Tree) × WritesTree (length natives) (infix_parts formula) tree × (f.tokens ≡ spelling tree) × (f.natives ≡ length natives))
  pub refused : (why : FormulaCause)
      → (infix_entry formula natives ≡ Err (BadFormula why)) ↔ ((place : ℕ) × IsInfixFault (length natives) (infix_parts formula) place why)

-- so it is of each formula that has no `#`
abbrev pub EntriesAreByGrammar : Type 0
EntriesAreByGrammar = (formula : Text) (natives : List Text) → has_rate formula ≡ false → IsByGrammar formula natives
