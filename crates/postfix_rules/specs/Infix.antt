-- Formulas in infix order: their grammar, and how their tokens write trees.
use Rattle.std.specs.Prelude.{◌≡◌, ℕ, ⊤, List, [], ◌∷◌, ◌++◌, map, Some, nat_le, if◌then◌else◌, ◌+◌}
use Rattle.postfix_rules.specs.Trees.{Tree, Constant, Count, Node}
use Rattle.postfix_rules.specs.InfixTokens.{InfixPart}
use Rattle.postfix_rules.specs.declared.token.Operator.{Operator}
use Rattle.postfix_rules.specs.declared.token.Operator.TheVariants as op
use Rattle.postfix_rules.specs.declared.token.Token.TheVariants as token
use Rattle.postfix_rules.specs.declared.infix_token.InfixToken.{InfixToken}
use Rattle.postfix_rules.specs.declared.infix_token.InfixToken.TheVariants as sign

-- a formula as it is written: a number, a native, two formulas and an operator between them, or a formula in parentheses
pub data Written : Type 0 where
  Number : ℕ → Written
  Native : ℕ → Written
  Two : Operator → Written → Written → Written
  Inside : Written → Written

-- what a place of the grammar takes
pub data Phrase : Type 0 where
  sum : Phrase
  term : Phrase
  factor : Phrase

-- The grammar. A sum is a term, or a sum, `+` or `-`, and a term; a term is a factor, or a term, `*` or `/`, and a factor; a
-- factor is a number, a native, or a sum in parentheses.
abbrev pub IsPhrase : Phrase → Written → Type 0
IsPhrase phrase (Number n) = ⊤
IsPhrase phrase (Native i) = ⊤
IsPhrase phrase (Inside x) = IsPhrase sum x
IsPhrase sum (Two op.Plus x y) = IsPhrase sum x × IsPhrase term y
IsPhrase sum (Two op.Minus x y) = IsPhrase sum x × IsPhrase term y
IsPhrase sum (Two op.Times x y) = IsPhrase term x × IsPhrase factor y
IsPhrase sum (Two op.Over x y) = IsPhrase term x × IsPhrase factor y
IsPhrase term (Two op.Plus x y) = ⊥
IsPhrase term (Two op.Minus x y) = ⊥
IsPhrase term (Two op.Times x y) = IsPhrase term x × IsPhrase factor y
IsPhrase term (Two op.Over x y) = IsPhrase term x × IsPhrase factor y
IsPhrase factor (Two o x y) = ⊥

-- the tokens of a written formula, from left to right
abbrev pub wording : Written → List InfixToken
wording (Number n) = sign.Token (token.Constant n) ∷ []
wording (Native i) = sign.Token (token.Native i) ∷ []
wording (Two o x y) = wording x ++ (sign.Token (token.Operator o) ∷ wording y)
wording (Inside x) = sign.Open ∷ (wording x ++ (sign.Close ∷ []))

-- the tree of a written formula, in which parentheses leave no node
abbrev pub tree_of : Written → Tree
tree_of (Number n) = Constant n
tree_of (Native i) = Count i
tree_of (Two o x y) = Node o (tree_of x) (tree_of y)
tree_of (Inside x) = tree_of x

-- the parts are the tokens of a sum, which writes this tree
abbrev pub IsInfix : List InfixPart → Tree → Type 0
IsInfix parts tree = (w : Written) × IsPhrase sum w × (parts ≡ map Some (wording w)) × (tree ≡ tree_of w)

-- how many places of a stack the value of a tree needs
abbrev pub need : Tree → ℕ
need (Constant n) = 1
need (Count i) = 1
need (Node o x y) = if nat_le (1 + need y) (need x) then need x else 1 + need y

-- tokens write one tree at most
abbrev pub OneTree : Type 0
OneTree = (parts : List InfixPart) (a b : Tree) → IsInfix parts a → IsInfix parts b → a ≡ b
