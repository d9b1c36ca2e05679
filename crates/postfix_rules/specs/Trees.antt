-- Formulas as trees, and how tokens spell them in postfix order: papi_events.csv.
use Rattle.std.specs.Prelude.{ℕ, List, [], ◌∷◌, ◌++◌, Option, Some, None}
use Rattle.postfix_rules.specs.declared.token.Operator.{Operator}
use Rattle.postfix_rules.specs.declared.token.Token.{Token}
use Rattle.postfix_rules.specs.declared.token.Token.TheVariants as token

-- a formula as a tree, whose leaves are constants and numbers of natives
pub data Tree : Type 0 where
  Constant : ℕ → Tree
  Count : ℕ → Tree
  Node : Operator → Tree → Tree → Tree

-- a tree's tokens: the operands, then the operator
unfoldable pub spelling : Tree → List Token
spelling (Constant n) = token.Constant n ∷ []
spelling (Count i) = token.Native i ∷ []
spelling (Node o x y) = spelling x ++ (spelling y ++ (token.Operator o ∷ []))

-- the tokens of a pile of trees, of which the first lies on top
unfoldable pub pile_text : List Tree → List Token
pile_text [] = []
pile_text (top ∷ below) = pile_text below ++ spelling top

-- the pile of trees that tokens make of the trees before them
unfoldable pub pile_from : List Tree → List Token → Option (List Tree)
pile_from pile [] = Some pile
pile_from pile (token.Constant n ∷ rest) = pile_from (Constant n ∷ pile) rest
pile_from pile (token.Native i ∷ rest) = pile_from (Count i ∷ pile) rest
pile_from [] (token.Operator o ∷ rest) = None
pile_from (y ∷ []) (token.Operator o ∷ rest) = None
pile_from (y ∷ x ∷ pile) (token.Operator o ∷ rest) = pile_from (Node o x y ∷ pile) rest
