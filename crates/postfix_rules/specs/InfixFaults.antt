-- The first fault of a formula in infix order, with 16 open parentheses, a stack of 16 places and constants of 63 bits.
use Rattle.std.specs.Prelude.{◌≡◌, ◌≤◌, ◌<◌, ◌+◌, ◌-◌, ◌^◌, ◌==◌, ℕ, Bool, true, false, List, take, fold, length, slice_get}
use Rattle.std.specs.Prelude.{Option, Some, None, if◌then◌else◌, nat_le, nat_lt, Result, Ok, Err}
use Rattle.postfix_rules.specs.declared.limits.TheConstants.{MOST_OPEN_PARENTHESES, MOST_OPERANDS}
use Rattle.postfix_rules.specs.declared.fault.FormulaCause.{FormulaCause}
use Rattle.postfix_rules.specs.declared.fault.FormulaCause.TheVariants as cause
use Rattle.postfix_rules.specs.declared.fault.FormulaFault.{FormulaFault}
use Rattle.postfix_rules.specs.declared.fault.FormulaFault.TheVariants.{At, Memory}
use Rattle.postfix_rules.specs.declared.formula.Formula.{Formula}
use Rattle.postfix_rules.specs.declared.token.Token.TheVariants as token
use Rattle.postfix_rules.specs.declared.infix_token.InfixToken.TheVariants as sign
use Rattle.postfix_rules.specs.Infix.{IsInfix, need}
use Rattle.postfix_rules.specs.InfixTokens.{InfixPart, infix_parts}
use Rattle.postfix_rules.specs.Trees.{Tree, spelling}
use Rattle.table_rows.specs.Texts.{Text}

-- a factor must begin after this part: it is an operator or a `(`
abbrev pub begins_factor : InfixPart → Bool
begins_factor (Some (sign.Token (token.Operator o))) = true
begins_factor (Some sign.Open) = true
begins_factor part = false

-- a factor must begin after these parts: there are none, or it must after the last of them
abbrev pub must_begin : List InfixPart → Bool
must_begin parts = fold (λ must part. begins_factor part) true parts

-- one open parenthesis more or fewer
abbrev pub open_after : ℕ → InfixPart → ℕ
open_after depth None = depth
open_after depth (Some (sign.Token t)) = depth
open_after depth (Some sign.Open) = depth + 1
open_after depth (Some sign.Close) = depth - 1

-- how many parentheses are open after these parts
abbrev pub open_at_end : List InfixPart → ℕ
open_at_end parts = fold open_after 0 parts

-- an operand stands only where a factor must begin
abbrev pub place_of_operand : Bool → Option FormulaCause
place_of_operand must = if must then None else Some cause.OperandsLeft

-- so does `(`, inside at most 15 others
abbrev pub open_cause : Bool → ℕ → Option FormulaCause
open_cause must depth = if must then (if nat_le MOST_OPEN_PARENTHESES depth then Some cause.TooDeep else None) else Some cause.OperandsLeft

-- `)` stands after an operand, and closes a `(`
abbrev pub close_cause : Bool → ℕ → Option FormulaCause
close_cause must depth = if must then Some cause.OperandMissing else if depth == 0 then Some cause.Unbalanced else None

-- the cause of a part, if a factor must begin or may not, with n open parentheses before it
unfoldable pub infix_cause : ℕ → Bool → ℕ → InfixPart → Option FormulaCause
infix_cause natives must depth None = Some cause.UnknownToken
infix_cause natives must depth (Some (sign.Token (token.Constant n))) = if nat_lt n (2 ^ 63) then place_of_operand must else Some cause.ConstantTooLarge
infix_cause natives must depth (Some (sign.Token (token.Native i))) = if nat_lt i natives then place_of_operand must else Some cause.NativeRange
infix_cause natives must depth (Some (sign.Token (token.Operator o))) = if must then Some cause.OperandMissing else None
infix_cause natives must depth (Some sign.Close) = close_cause must depth
infix_cause natives must depth (Some sign.Open) = open_cause must depth

-- the cause of the part at a place from 0, in view of the parts before it
abbrev pub cause_at : ℕ → List InfixPart → ℕ → InfixPart → Option FormulaCause
cause_at natives parts k part = infix_cause natives (must_begin (take k parts)) (open_at_end (take k parts)) part

-- the end of parts that have no cause is at fault
abbrev pub IsEndFault : List InfixPart → FormulaCause → Type 0
IsEndFault parts cause.OperandMissing = must_begin parts ≡ true
IsEndFault parts cause.Unbalanced = (must_begin parts ≡ false) × (0 < open_at_end parts)
IsEndFault parts cause.TooDeep = (must_begin parts ≡ false) × (open_at_end parts ≡ 0) × ((tree : Tree) × IsInfix parts tree × (MOST_OPERANDS < need tree))
IsEndFault parts why = ⊥

-- the place is at fault: its part has the cause, or it is one past the last part, and the end is at fault
abbrev pub HasCauseAt : ℕ → List InfixPart → ℕ → FormulaCause → Option InfixPart → Type 0
HasCauseAt natives parts k why None = (k ≡ length parts) × IsEndFault parts why
HasCauseAt natives parts k why (Some part) = cause_at natives parts k part ≡ Some why

-- no part before the place has a cause
abbrev pub AreClear : ℕ → List InfixPart → ℕ → Type 0
AreClear natives parts k = (j : ℕ) (part : InfixPart) → j < k → slice_get parts j ≡ Some part → cause_at natives parts j part ≡ None

-- the place k from 0 is the first that is at fault
pub record IsInfixFault (natives : ℕ) (parts : List InfixPart) (k : ℕ) (why : FormulaCause) : Type 0 where
  pub here : HasCauseAt natives parts k why (slice_get parts k)
  pub first : AreClear natives parts k

-- the parts write a tree, no part has a cause, and the tree needs few places
pub record WritesTree (natives : ℕ) (parts : List InfixPart) (tree : Tree) : Type 0 where
  pub writes : IsInfix parts tree
  pub clear : AreClear natives parts (length parts)
  pub few : need tree ≤ MOST_OPERANDS

-- The answer to a text: the postfix tokens of the tree that it writes, or its first fault. Memory may run out at any text.
abbrev pub ReadsInfix : Result Formula FormulaFault → ℕ → Text → Type 0
ReadsInfix (Ok f) natives text = (tree : Tree) × WritesTree natives (infix_parts text) tree × (f.tokens ≡ spelling tree) × (f.natives ≡ natives)
ReadsInfix (Err (At place why)) natives text = (k : ℕ) × (place ≡ k + 1) × IsInfixFault natives (infix_parts text) k why
ReadsInfix (Err Memory) natives text = Unit {0}
