-- The values of formulas, in signed numbers of 64 bits that wrap: papi_events.csv, in whole numbers.
use Rattle.std.specs.Prelude.{◌≡◌, ◌==◌, List, [], ◌∷◌, slice_index_or, ℤ, pos, ◌+ℤ◌, ◌-ℤ◌}
use Rattle.std.specs.Prelude.{◌*ℤ◌, int_div, unsigned_abs, if◌then◌else◌, Option, Some, None}
use Rattle.std.specs.Int.{int_wrap, w64}
use Rattle.postfix_rules.specs.declared.token.Operator.{Operator}
use Rattle.postfix_rules.specs.declared.token.Operator.TheVariants as op
use Rattle.postfix_rules.specs.declared.token.Token.{Token}
use Rattle.postfix_rules.specs.Trees.{Tree, Constant, Count, Node, pile_from, spelling}

-- the signed number of 64 bits that is congruent to z
abbrev pub wrapped : ℤ → ℤ
wrapped z = int_wrap w64 z

-- the quotient of two values, toward zero; by 0 it is 0
unfoldable pub divided : ℤ → ℤ → ℤ
divided x y = if unsigned_abs y == 0 then pos 0 else wrapped (int_div x y)

-- an operator on two values
abbrev pub applied : Operator → ℤ → ℤ → ℤ
applied op.Plus x y = wrapped (x +ℤ y)
applied op.Minus x y = wrapped (x -ℤ y)
applied op.Times x y = wrapped (x *ℤ y)
applied op.Over x y = divided x y

-- the value of a tree, if the counts of its natives are given
unfoldable pub tree_value : List ℤ → Tree → ℤ
tree_value counts (Constant n) = pos n
tree_value counts (Count i) = slice_index_or counts i (pos 0)
tree_value counts (Node o x y) = applied o (tree_value counts x) (tree_value counts y)

-- the value of the tree on top of a pile
abbrev pub top_value : List ℤ → Option (List Tree) → ℤ
top_value counts None = pos 0
top_value counts (Some []) = pos 0
top_value counts (Some (tree ∷ below)) = tree_value counts tree

-- the value of the tree that the tokens spell
abbrev pub formula_value : List ℤ → List Token → ℤ
formula_value counts tokens = top_value counts (pile_from [] tokens)

-- a number is the value of every tree that the tokens spell
abbrev pub IsTreeValue : List ℤ → List Token → ℤ → Type 0
IsTreeValue counts tokens value = (tree : Tree) → tokens ≡ spelling tree → value ≡ tree_value counts tree

-- the sum of signed numbers
unfoldable pub signed_sum : List ℤ → ℤ
signed_sum [] = pos 0
signed_sum (x ∷ xs) = x +ℤ signed_sum xs
