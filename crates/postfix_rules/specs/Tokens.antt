-- The tokens of a formula's text, and the text of tokens: papi_events.csv.
use Rattle.std.specs.Prelude.{◌||◌, ◌==◌, ℕ, Bool, List, [], ◌∷◌, ◌++◌, map, Option, Some, None, if◌then◌else◌, codes, bytes_eq, decimal}
use Rattle.std.specs.List.{slice_split}
use Rattle.std.specs.Option.{option_map_or}
use Rattle.std.specs.Str.Parse.{digits_value}
use Rattle.papi_base.specs.Numerals.{is_digit, is_empty, is_numeral}
use Rattle.table_rows.specs.Texts.{Text, trimmed}
use Rattle.postfix_rules.specs.declared.token.Operator.{Operator}
use Rattle.postfix_rules.specs.declared.token.Operator.TheVariants as op
use Rattle.postfix_rules.specs.declared.token.Token.{Token}
use Rattle.postfix_rules.specs.declared.token.Token.TheVariants as token
use Rattle.postfix_rules.specs.Faults.{Part}

-- a `|`
abbrev pub is_bar : ℕ → Bool
is_bar b = b == 124

-- the pieces without a last one that is empty or has blanks alone
unfoldable pub without_blank_last : List Text → List Text
without_blank_last [] = []
without_blank_last (p ∷ []) = if is_empty (trimmed p) then [] else p ∷ []
without_blank_last (p ∷ q ∷ rest) = p ∷ without_blank_last (q ∷ rest)

-- a text's pieces: what is ended by `|`, and a last one that is not, unless it is empty or has blanks alone
unfoldable pub pieces_of : Text → List Text
pieces_of text = without_blank_last (slice_split is_bar text)

-- an operator's sign
abbrev pub operator_of : Text → Option Operator
operator_of t =
    if bytes_eq t (codes "+") then Some op.Plus
    else if bytes_eq t (codes "-") then Some op.Minus
    else if bytes_eq t (codes "*") then Some op.Times
    else if bytes_eq t (codes "/") then Some op.Over
    else None

-- a constant by its digits
abbrev pub constant_part : Text → Part
constant_part digits = Some (token.Constant (digits_value 10 digits))

-- a native by one or more digits
abbrev pub native_part : Text → Part
native_part digits = if is_numeral digits then Some (token.Native (digits_value 10 digits)) else None

-- `N` and digits
abbrev pub lettered_part : Text → Part
lettered_part [] = None
lettered_part (b ∷ digits) = if b == 78 then native_part digits else None

-- one or more digits, or `N` and such
abbrev pub operand_part : Text → Part
operand_part t = if is_numeral t then constant_part t else lettered_part t

-- the token that a text with no blanks round it is: an operator or an operand
unfoldable pub part_of : Text → Part
part_of t = option_map_or (λ o. Some (token.Operator o)) (operator_of t) (operand_part t)

-- the parts of a text: its pieces without the blanks round them, as tokens
unfoldable pub parts_of : Text → List Part
parts_of text = map (λ p. part_of (trimmed p)) (pieces_of text)

-- ---- the text of tokens

-- the text of an operator
abbrev pub operator_text : Operator → Text
operator_text op.Plus = codes "+"
operator_text op.Minus = codes "-"
operator_text op.Times = codes "*"
operator_text op.Over = codes "/"

-- a token with its number in decimal, without leading zeros
abbrev pub token_text : Token → Text
token_text (token.Constant n) = decimal n
token_text (token.Native i) = 78 ∷ decimal i
token_text (token.Operator o) = operator_text o

-- each token is followed by `|`
unfoldable pub formula_text : List Token → Text
formula_text [] = []
formula_text (t ∷ rest) = token_text t ++ (124 ∷ formula_text rest)

-- a byte of a written formula: a digit, `N`, `|`, or an operator
abbrev pub is_formula_byte : ℕ → Bool
is_formula_byte b = is_digit b || ((b == 78) || ((b == 124) || ((b == 43) || ((b == 45) || ((b == 42) || (b == 47))))))
