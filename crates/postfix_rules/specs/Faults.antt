-- The first fault of a formula: papi_events.csv, with a stack of 16 places and constants of 63 bits.
use Rattle.std.specs.Prelude.{◌≡◌, ◌≤◌, ◌<◌, ◌+◌, ◌-◌, ◌^◌, ℕ, List, [], ◌∷◌, map, take, length}
use Rattle.std.specs.Prelude.{slice_get, Option, Some, None, if◌then◌else◌, nat_le, nat_lt}
use Rattle.std.specs.Option.{option_map_or}
use Rattle.postfix_rules.specs.declared.limits.TheConstants.{MOST_OPERANDS}
use Rattle.postfix_rules.specs.declared.token.Token.{Token}
use Rattle.postfix_rules.specs.declared.token.Token.TheVariants as token
use Rattle.postfix_rules.specs.declared.fault.FormulaCause.{FormulaCause}
use Rattle.postfix_rules.specs.declared.fault.FormulaCause.TheVariants as cause
use Rattle.postfix_rules.specs.Trees.{Tree, pile_text}

-- a part of a formula's text: a token, or none if it is not one
abbrev pub Part : Type 0
Part = Option Token

-- the parts are the tokens of a pile of these trees
abbrev pub Pile : List Part → List Tree → Type 0
Pile parts trees = parts ≡ map Some (pile_text trees)

-- why one value more is refused, if it is: at most 16 wait
abbrev pub operand_cause : ℕ → Option FormulaCause
operand_cause height = if nat_le MOST_OPERANDS height then Some cause.TooDeep else None

-- the cause of a part after a pile of k trees, in a formula over n natives
unfoldable pub token_cause : ℕ → ℕ → Part → Option FormulaCause
token_cause natives height None = Some cause.UnknownToken
token_cause natives height (Some (token.Constant n)) = if nat_lt n (2 ^ 63) then operand_cause height else Some cause.ConstantTooLarge
token_cause natives height (Some (token.Native i)) = if nat_lt i natives then operand_cause height else Some cause.NativeRange
token_cause natives height (Some (token.Operator o)) = if nat_lt height 2 then Some cause.OperandMissing else None

-- the cause at the end of the parts
unfoldable pub end_cause : ℕ → Option FormulaCause
end_cause height = if nat_lt height 1 then Some cause.OperandMissing else if nat_lt height 2 then None else Some cause.OperandsLeft

-- the cause at a place
abbrev pub place_cause : ℕ → ℕ → Option Part → Option FormulaCause
place_cause natives height None = end_cause height
place_cause natives height (Some part) = token_cause natives height part

-- The place k from 0 is at fault: the parts before it are a pile of at most 16 trees, and it is the least such place with a cause.
pub record IsFault (natives : ℕ) (parts : List Part) (k : ℕ) (why : FormulaCause) : Type 0 where
  pub within : k ≤ length parts
  pub pile : List Tree
  pub before : Pile (take k parts) pile
  pub few : length pile ≤ MOST_OPERANDS
  pub here : place_cause natives (length pile) (slice_get parts k) ≡ Some why
  pub first : (j : ℕ) (trees : List Tree) → j < k → Pile (take j parts) trees → length trees ≤ MOST_OPERANDS
      → place_cause natives (length trees) (slice_get parts j) ≡ None

-- the height of the pile after a part
abbrev pub height_after : ℕ → Part → ℕ
height_after height None = height
height_after height (Some (token.Constant n)) = height + 1
height_after height (Some (token.Native i)) = height + 1
height_after height (Some (token.Operator o)) = height - 1

-- the first fault of the parts after a pile of n trees, of which the first is the part at this place from 0
unfoldable pub fault_from : ℕ → ℕ → ℕ → List Part → Option (ℕ × FormulaCause)
fault_from natives place height [] = option_map_or (λ why. Some (place, why)) (end_cause height) None
fault_from natives place height (part ∷ rest) =
    option_map_or (λ why. Some (place, why)) (token_cause natives height part) (fault_from natives (place + 1) (height_after height part) rest)

-- the tokens are a formula over n natives
abbrev pub IsFormula : ℕ → List Token → Type 0
IsFormula natives tokens = fault_from natives 0 0 (map Some tokens) ≡ None

-- what contracts see of a formula
pub record FormulaView : Type 0 where
  pub tokens : List Token
  pub natives : ℕ
