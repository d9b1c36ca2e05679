-- The tokens of a formula's text in infix order.
use Rattle.std.specs.Prelude.{◌&&◌, ◌==◌, ℕ, Bool, true, false, List, [], ◌∷◌, Option, Some, if◌then◌else◌}
use Rattle.std.specs.List.{take_while}
use Rattle.std.specs.Option.{option_map}
use Rattle.papi_base.specs.Numerals.{is_digit}
use Rattle.table_rows.specs.Texts.{Text, is_blank}
use Rattle.postfix_rules.specs.Faults.{Part}
use Rattle.postfix_rules.specs.Tokens.{constant_part, native_part, operator_of}
use Rattle.postfix_rules.specs.declared.token.Token.TheVariants as token
use Rattle.postfix_rules.specs.declared.infix_token.InfixToken.{InfixToken}
use Rattle.postfix_rules.specs.declared.infix_token.InfixToken.TheVariants as sign

-- a part of a text in infix order: a token, or none if it is not one
abbrev pub InfixPart : Type 0
InfixPart = Option InfixToken

-- a token that formulas in postfix order have too
abbrev pub in_infix : Part → InfixPart
in_infix part = option_map sign.Token part

-- the digits that a text begins with
abbrev pub digits_of : Text → Text
digits_of text = take_while is_digit text

-- the text begins with a digit
abbrev pub begins_digits : Text → Bool
begins_digits [] = false
begins_digits (b ∷ rest) = is_digit b

-- an operator or a parenthesis
abbrev pub sign_part : ℕ → InfixPart
sign_part b =
    if b == 40 then Some sign.Open
    else if b == 41 then Some sign.Close
    else option_map (λ o. sign.Token (token.Operator o)) (operator_of (b ∷ []))

-- The parts of a text: digits, `N` and digits, operators and parentheses, with spaces and tabs between them. Each other byte
-- is a part that is not a token. Inside a part that has begun, further digits belong to it.
unfoldable pub infix_from : Bool → Text → List InfixPart
infix_from inside [] = []
infix_from inside (b ∷ rest) =
    if is_digit b then (if inside then infix_from true rest else in_infix (constant_part (digits_of (b ∷ rest))) ∷ infix_from true rest)
    else if (b == 78) && begins_digits rest then in_infix (native_part (digits_of rest)) ∷ infix_from true rest
    else if is_blank b then infix_from false rest
    else sign_part b ∷ infix_from false rest

-- the parts of a text in infix order
abbrev pub infix_parts : Text → List InfixPart
infix_parts text = infix_from false text
