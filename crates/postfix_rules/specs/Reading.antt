-- What a text reads as: papi_events.csv.
use Rattle.std.specs.Prelude.{ℕ, ◌≡◌, ◌<◌, ◌^◌, ◌+◌, ◌↔◌, true, List, [], ◌∷◌, length, map, Option, Some, None, Result, Ok, Err}
use Rattle.std.specs.List.{list_all}
use Rattle.postfix_rules.specs.declared.fault.FormulaCause.{FormulaCause}
use Rattle.postfix_rules.specs.declared.fault.FormulaFault.{FormulaFault}
use Rattle.postfix_rules.specs.declared.fault.FormulaFault.TheVariants.{At, Memory}
use Rattle.postfix_rules.specs.declared.formula.Formula.{Formula}
use Rattle.postfix_rules.specs.declared.token.Token.{Token}
use Rattle.postfix_rules.specs.Faults.{FormulaView, IsFault, IsFormula, Part, fault_from}
use Rattle.postfix_rules.specs.Trees.{Tree, spelling}
use Rattle.postfix_rules.specs.Tokens.{formula_text, is_formula_byte, parts_of}
use Rattle.table_rows.specs.Texts.{Text}

-- the first fault of a text, by its place from 1, which is one past the last token if it is the text's end
pub record RefusedFormula : Type 0 where
  pub place : ℕ
  pub cause : FormulaCause

-- the tokens among parts
abbrev pub tokens_among : List Part → List Token
tokens_among [] = []
tokens_among (None ∷ rest) = tokens_among rest
tokens_among (Some t ∷ rest) = t ∷ tokens_among rest

-- the formula of parts that have no fault, or their fault
abbrev pub unless_fault : ℕ → List Part → Option (ℕ × FormulaCause) → Result FormulaView RefusedFormula
unless_fault natives parts None = Ok (record { tokens = tokens_among parts; natives = natives })
unless_fault natives parts (Some fault) = Err (record { place = fault.0 + 1; cause = fault.1 })

-- the formula of a text over n natives, or the text's first fault
unfoldable pub formula_of : ℕ → Text → Result FormulaView RefusedFormula
formula_of natives text = unless_fault natives (parts_of text) (fault_from natives 0 0 (parts_of text))

-- The answer to a text. Memory may run out at any text.
abbrev pub ReadsFormula : Result Formula FormulaFault → ℕ → Text → Type 0
ReadsFormula (Ok formula) natives text = formula_of natives text ≡ Ok formula
ReadsFormula (Err (At place cause)) natives text = formula_of natives text ≡ Err (record { place = place; cause = cause })
ReadsFormula (Err Memory) natives text = Unit {0}

-- the text has these tokens, and they spell one tree
abbrev pub IsTreeText : Text → List Token → Type 0
IsTreeText text tokens = (parts_of text ≡ map Some tokens) × ((tree : Tree) × (tokens ≡ spelling tree))

-- The fault is that of the text: at the least place where the parts before it are a pile of at most 16 trees, and which has a cause.
abbrev pub IsTextFault : ℕ → Text → FormulaFault → Type 0
IsTextFault natives text (At place cause) = (k : ℕ) × (place ≡ k + 1) × IsFault natives (parts_of text) k cause
IsTextFault natives text Memory = Unit {0}

-- ---- laws

-- how a text over n natives reads
abbrev pub Reads : Type 0
Reads = ℕ → Text → Result FormulaView RefusedFormula

-- a text is refused exactly at its first fault
abbrev pub RefusesFirst : Reads → (ℕ → Text → ℕ → FormulaCause → Type 0) → Type 0
RefusesFirst reads IsFirst =
    (natives : ℕ) (text : Text) (k : ℕ) (why : FormulaCause) → (reads natives text ≡ Err (record { place = k + 1; cause = why })) ↔ IsFirst natives text k why

-- the place of a fault in a text counts from 1
abbrev pub CountsFromOne : Reads → Type 0
CountsFromOne reads = (natives : ℕ) (text : Text) (refused : RefusedFormula) → reads natives text ≡ Err refused → 0 < refused.place

-- in postfix order
abbrev pub FirstFaults : Type 0
FirstFaults = RefusesFirst formula_of (λ natives text. IsFault natives (parts_of text))

abbrev pub FromOne : Type 0
FromOne = CountsFromOne formula_of

-- a text reads as a formula exactly if its parts are the formula's tokens
abbrev pub SameTokens : Type 0
SameTokens =
    (natives : ℕ) (text : Text) (f : FormulaView)
    → (formula_of natives text ≡ Ok f) ↔ ((parts_of text ≡ map Some f.tokens) × (f.natives ≡ natives) × IsFormula natives f.tokens)

-- the written text of a formula reads as the formula
abbrev pub WrittenRead : Type 0
WrittenRead = (f : FormulaView) → f.natives < 2 ^ 32 → IsFormula f.natives f.tokens → formula_of f.natives (formula_text f.tokens) ≡ Ok f

-- the written text of a formula has some bytes, which are digits, `N`, `|` and operators
abbrev pub WrittenBytes : Type 0
WrittenBytes =
    (f : FormulaView) → f.natives < 2 ^ 32 → IsFormula f.natives f.tokens
    → (0 < length (formula_text f.tokens)) × (list_all is_formula_byte (formula_text f.tokens) ≡ true)
