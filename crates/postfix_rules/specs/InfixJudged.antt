-- What is read of a text in infix order, part by part.
use Rattle.std.specs.Prelude.{ℕ, ◌≡◌, ◌<◌, ◌^◌, Bool, List, [], ◌∷◌, Option, Some, None, Result, Ok, Err}
use Rattle.std.specs.Borrow.{Bor}
use Rattle.postfix_rules.specs.declared.fault.FormulaCause.{FormulaCause}
use Rattle.postfix_rules.specs.declared.infix_token.InfixToken.{InfixToken}
use Rattle.postfix_rules.specs.InfixFaults.{infix_cause}
use Rattle.postfix_rules.specs.InfixTokens.{InfixPart, infix_parts}

-- the part is this token, or has this cause wherever it stands
abbrev pub ReadsPart : Result InfixToken FormulaCause → InfixPart → Type 0
ReadsPart (Ok t) part = part ≡ Some t
ReadsPart (Err why) part = (natives : ℕ) (must : Bool) (depth : ℕ) → natives < 2 ^ 32 → infix_cause natives must depth part ≡ Some why

-- what a text begins with: no part, or one with the text after it
abbrev pub Begins : List InfixPart → Option (Result InfixToken FormulaCause × Bor (List ℕ)) → Type 0
Begins parts None = parts ≡ []
Begins parts (Some p) = (part : InfixPart) × (parts ≡ part ∷ infix_parts p.1.now) × ReadsPart p.0 part

-- the first part was read, and the others are those of the text that is left
abbrev pub BeginsPart : List InfixPart → Result InfixToken FormulaCause × Bor (List ℕ) → Type 0
BeginsPart parts p = (part : InfixPart) × (parts ≡ part ∷ infix_parts p.1.now) × ReadsPart p.0 part

-- the part is this token and has no cause, or has this cause
abbrev pub JudgesPart : Result InfixToken FormulaCause → ℕ → Bool → ℕ → InfixPart → Type 0
JudgesPart (Ok t) natives must depth part = (part ≡ Some t) × (infix_cause natives must depth part ≡ None)
JudgesPart (Err why) natives must depth part = infix_cause natives must depth part ≡ Some why
