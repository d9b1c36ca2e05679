-- The same values on a stack of numbers.
use Rattle.std.specs.Prelude.{ℕ, List, [], ◌∷◌, slice_index_or, take, reverse, ℤ, pos}
use Rattle.postfix_rules.specs.declared.token.Token.{Token}
use Rattle.postfix_rules.specs.declared.token.Token.TheVariants as token
use Rattle.postfix_rules.specs.Values.{applied}

-- the numbers of a stack, the top first
abbrev pub pile : List ℤ → ℕ → List ℤ
pile stack height = reverse (take height stack)

-- the stack after a token
abbrev pub stepped : List ℤ → Token → List ℤ → List ℤ
stepped counts (token.Constant n) stack = pos n ∷ stack
stepped counts (token.Native i) stack = slice_index_or counts i (pos 0) ∷ stack
stepped counts (token.Operator o) [] = []
stepped counts (token.Operator o) (y ∷ []) = []
stepped counts (token.Operator o) (y ∷ x ∷ stack) = applied o x y ∷ stack

-- the stack after tokens
unfoldable pub stack_from : List ℤ → List ℤ → List Token → List ℤ
stack_from counts stack [] = stack
stack_from counts stack (t ∷ rest) = stack_from counts (stepped counts t stack) rest
