-- What is read of a text, piece by piece.
use Rattle.std.specs.Prelude.{ℕ, ◌≡◌, ◌<◌, ◌^◌, List, [], ◌∷◌, Option, Some, None, Result, Ok, Err}
use Rattle.std.specs.Borrow.{Bor}
use Rattle.postfix_rules.specs.declared.fault.FormulaCause.{FormulaCause}
use Rattle.postfix_rules.specs.declared.token.Token.{Token}
use Rattle.postfix_rules.specs.Faults.{Part, token_cause}
use Rattle.postfix_rules.specs.Tokens.{part_of, parts_of}

-- the parts of a text whose first piece, and what follows it, are these
abbrev pub parts_after : Option (Bor (List ℕ) × Bor (List ℕ)) → List Part
parts_after None = []
parts_after (Some p) = part_of p.0.now ∷ parts_of p.1.now

-- the part is this token, or has this cause wherever it stands
abbrev pub ReadsToken : Result Token FormulaCause → Part → Type 0
ReadsToken (Ok t) part = part ≡ Some t
ReadsToken (Err why) part = (natives height : ℕ) → natives < 2 ^ 32 → token_cause natives height part ≡ Some why

-- the part is this token and has no cause, or has this cause
abbrev pub JudgesToken : Result Token FormulaCause → ℕ → ℕ → Part → Type 0
JudgesToken (Ok t) natives height part = (part ≡ Some t) × (token_cause natives height part ≡ None)
JudgesToken (Err why) natives height part = token_cause natives height part ≡ Some why
