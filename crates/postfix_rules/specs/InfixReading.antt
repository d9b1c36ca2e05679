-- A formula in infix order, read from its front: the tokens in postfix order so far, and the operators that wait.
use Rattle.std.specs.Prelude.{◌≡◌, ◌+◌, ℕ, Bool, true, false, List, [], ◌∷◌, ◌++◌, map, length, Option, Some, None, is_some}
use Rattle.std.specs.Prelude.{Result, Ok, Err, if◌then◌else◌, nat_lt}
use Rattle.std.specs.Option.{option_map_or}
use Rattle.postfix_rules.specs.declared.fault.FormulaCause.{FormulaCause}
use Rattle.postfix_rules.specs.declared.fault.FormulaCause.TheVariants as cause
use Rattle.postfix_rules.specs.declared.fault.FormulaFault.{FormulaFault}
use Rattle.postfix_rules.specs.declared.fault.FormulaFault.TheVariants.{At, Memory}
use Rattle.postfix_rules.specs.declared.formula.Formula.{Formula}
use Rattle.postfix_rules.specs.declared.postfix_order.Waiting.{Waiting}
use Rattle.postfix_rules.specs.declared.token.Operator.{Operator}
use Rattle.postfix_rules.specs.declared.token.Operator.TheVariants as op
use Rattle.postfix_rules.specs.declared.token.Token.{Token}
use Rattle.postfix_rules.specs.declared.token.Token.TheVariants as token
use Rattle.postfix_rules.specs.declared.infix_token.InfixToken.{InfixToken}
use Rattle.postfix_rules.specs.declared.infix_token.InfixToken.TheVariants as sign
use Rattle.postfix_rules.specs.Faults.{FormulaView, fault_from}
use Rattle.postfix_rules.specs.InfixFaults.{infix_cause}
use Rattle.postfix_rules.specs.InfixTokens.{InfixPart, infix_parts}
use Rattle.postfix_rules.specs.Reading.{RefusedFormula}
use Rattle.table_rows.specs.Texts.{Text}

-- The tokens so far, and the operators that wait for what is on their right: those of each open parenthesis, the innermost
-- first, and those inside it. `must`: a factor must begin.
pub record OrderView : Type 0 where
  pub tokens : List Token
  pub outer : List Waiting
  pub here : Waiting
  pub must : Bool

-- no operator waits
abbrev pub none_waits : Waiting
none_waits = record { sum = None; product = None }

-- no token so far
abbrev pub order_begun : OrderView
order_begun = record { tokens = []; outer = []; here = none_waits; must = true }

-- the operator that waits as a token
abbrev pub operator_tokens : Option Operator → List Token
operator_tokens None = []
operator_tokens (Some o) = token.Operator o ∷ []

-- an operator that waited has both its operands
abbrev pub put_out : OrderView → Option Operator → OrderView
put_out order o = record order { tokens = order.tokens ++ operator_tokens o }

-- a factor has ended, and with it the product that waited for it
abbrev pub factor_ended : OrderView → OrderView
factor_ended order = record {
  tokens = order.tokens ++ operator_tokens order.here.product;
  outer = order.outer;
  here = record { sum = order.here.sum; product = None };
  must = false;
}

-- a constant or a native is one factor more
abbrev pub operand_moved : OrderView → Token → OrderView
operand_moved order t = factor_ended (record order { tokens = order.tokens ++ (t ∷ []) })

-- a sum waits for a whole term, and a product for a factor
abbrev pub sum_moved : OrderView → Operator → OrderView
sum_moved order o = record {
  tokens = order.tokens ++ operator_tokens order.here.sum;
  outer = order.outer;
  here = record { sum = Some o; product = None };
  must = true;
}

-- a product has its first factor, and waits for the second
abbrev pub product_moved : OrderView → Operator → OrderView
product_moved order o = record { tokens = order.tokens; outer = order.outer; here = record { sum = order.here.sum; product = Some o }; must = true }

-- one operator more
abbrev pub operator_moved : OrderView → Operator → OrderView
operator_moved order op.Plus = sum_moved order op.Plus
operator_moved order op.Minus = sum_moved order op.Minus
operator_moved order op.Times = product_moved order op.Times
operator_moved order op.Over = product_moved order op.Over

-- a parenthesis opens: what waits, waits around it
abbrev pub order_opened : OrderView → OrderView
order_opened order = record { tokens = order.tokens; outer = order.here ∷ order.outer; here = none_waits; must = true }

-- what is inside parentheses has ended, and is a factor of what is around them
abbrev pub closed : OrderView → List Waiting → OrderView
closed order [] = order
closed order (around ∷ outer) =
    factor_ended (record { tokens = order.tokens ++ operator_tokens order.here.sum; outer = outer; here = around; must = order.must })

-- the order with one token more
unfoldable pub order_moved : OrderView → InfixToken → OrderView
order_moved order (sign.Token (token.Constant n)) = operand_moved order (token.Constant n)
order_moved order (sign.Token (token.Native i)) = operand_moved order (token.Native i)
order_moved order (sign.Token (token.Operator o)) = operator_moved order o
order_moved order sign.Open = order_opened order
order_moved order sign.Close = closed order order.outer

-- the order with one part more; a part that is not a token changes nothing
abbrev pub moved_by : OrderView → InfixPart → OrderView
moved_by order None = order
moved_by order (Some t) = order_moved order t

-- the tokens are a formula: their value finds room on the stack
abbrev pub formula_cause : ℕ → List Token → Option FormulaCause
formula_cause natives tokens = if is_some (fault_from natives 0 0 (map Some tokens)) then Some cause.TooDeep else None

-- the tokens of the whole formula, in postfix order
abbrev pub ended_tokens : OrderView → List Token
ended_tokens order = order.tokens ++ operator_tokens order.here.sum

-- the cause at the end of the parts
unfoldable pub infix_end : ℕ → OrderView → Option FormulaCause
infix_end natives order =
    if order.must then Some cause.OperandMissing
    else if nat_lt 0 (length order.outer) then Some cause.Unbalanced
    else formula_cause natives (ended_tokens order)

-- a refusal at a place, which counts from 1
abbrev pub refused_at : ℕ → FormulaCause → Result FormulaView RefusedFormula
refused_at place why = Err (record { place = place + 1; cause = why })

-- why a part is refused in this order, if it is
abbrev pub order_cause : ℕ → OrderView → InfixPart → Option FormulaCause
order_cause natives order part = infix_cause natives order.must (length order.outer) part

-- the formula of further parts after such an order, or the first fault, of which the first is the part at this place from 0
unfoldable pub infix_ended : ℕ → ℕ → OrderView → List InfixPart → Result FormulaView RefusedFormula
infix_ended natives place order [] = option_map_or (refused_at place) (infix_end natives order) (Ok (record { tokens = ended_tokens order; natives = natives }))
infix_ended natives place order (part ∷ rest) =
    option_map_or (refused_at place) (order_cause natives order part) (infix_ended natives (place + 1) (moved_by order part) rest)

-- the formula of a text in infix order over n natives, or the text's first fault
unfoldable pub infix_of : ℕ → Text → Result FormulaView RefusedFormula
infix_of natives text = infix_ended natives 0 order_begun (infix_parts text)

-- The answer if this is the formula or the first fault. Memory may run out at any text.
abbrev pub AnswersInfix : Result Formula FormulaFault → Result FormulaView RefusedFormula → Type 0
AnswersInfix (Ok formula) read = read ≡ Ok formula
AnswersInfix (Err (At place cause)) read = read ≡ Err (record { place = place; cause = cause })
AnswersInfix (Err Memory) read = Unit {0}
