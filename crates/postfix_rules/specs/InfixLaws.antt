-- What a text in infix order reads as, in the words of the grammar: laws of the definition that reads from the front.
use Rattle.std.specs.Prelude.{◌≡◌, ◌↔◌, ℕ, Ok}
use Rattle.postfix_rules.specs.Faults.{FormulaView}
use Rattle.postfix_rules.specs.InfixFaults.{IsInfixFault, WritesTree}
use Rattle.postfix_rules.specs.InfixReading.{infix_of}
use Rattle.postfix_rules.specs.InfixTokens.{infix_parts}
use Rattle.postfix_rules.specs.Reading.{CountsFromOne, RefusesFirst}
use Rattle.postfix_rules.specs.Trees.{Tree, spelling}
use Rattle.table_rows.specs.Texts.{Text}

-- a text reads as a formula exactly if it writes a tree by the grammar, without a fault, and the formula's tokens spell that tree
abbrev pub SameTree : Type 0
SameTree =
    (natives : ℕ) (text : Text) (f : FormulaView)
    → (infix_of natives text ≡ Ok f)
    ↔ ((tree : Tree) × WritesTree natives (infix_parts text) tree × (f.tokens ≡ spelling tree) × (f.natives ≡ natives))

-- a text is refused exactly at its first fault
abbrev pub FirstInfixFaults : Type 0
FirstInfixFaults = RefusesFirst infix_of (λ natives text. IsInfixFault natives (infix_parts text))

-- the place of a fault in a text in infix order counts from 1
abbrev pub FromOneInfix : Type 0
FromOneInfix = CountsFromOne infix_of
