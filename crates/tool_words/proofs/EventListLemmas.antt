-- The texts between the commas of a list.
use Rattle.tool_words.proofs.Words.{◌≡◌, ◌≤◌, ◌==◌, List, length, map, ap, arith, length-map, length-slice_split, Text, parts_of}

some_part : (list : Text) → 1 ≤ length (parts_of list)
unfolding parts_of
some_part list = omega (arith, length-slice_split (λ b. b == 44) list)

-- there is one at least
pub one_part : {X : Type 0} (view : X → Text) (parts : List X) (list : Text) → map view parts ≡ parts_of list → 1 ≤ length parts
one_part view parts list e = omega (arith, some_part list, length-map parts view, ap (λ (ps : List Text). length ps) e)
