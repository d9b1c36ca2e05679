-- Tokens are a pile of at most one list of trees.
use Rattle.postfix_rules.proofs.Words.{◌≡◌, ◌∙◌, ◌∷◌, ◌++◌, List, [], Some, refl, sym, ap, append_assoc, append-nil, Token, Tree, Constant, Count}
use Rattle.postfix_rules.proofs.Words.{Node, pile_from, pile_text, spelling}
use Rattle.postfix_rules.specs.declared.token.Token.TheVariants as token

-- a tree's tokens put the tree on top
pub spelling-run : (t : Tree) (pile : List Tree) (rest : List Token) → pile_from pile (spelling t ++ rest) ≡ pile_from (t ∷ pile) rest
unfolding pile_from spelling
spelling-run (Node o x y) pile rest =
    let a = append_assoc (spelling x) (spelling y ++ (token.Operator o ∷ [])) rest in
    let b = append_assoc (spelling y) (token.Operator o ∷ []) rest in
    rw (a, b) (spelling-run x pile (spelling y ++ (token.Operator o ∷ rest)) ∙ spelling-run y (x ∷ pile) (token.Operator o ∷ rest))
spelling-run t pile rest = refl

-- the tokens of a pile make that pile
pub pile-run : (pile : List Tree) (rest : List Token) → pile_from [] (pile_text pile ++ rest) ≡ pile_from pile rest
unfolding pile_text
pile-run [] rest = refl
pile-run (t ∷ pile) rest = rw (append_assoc (pile_text pile) (spelling t) rest) (pile-run pile (spelling t ++ rest) ∙ spelling-run t pile rest)

pub pile-made : (pile : List Tree) → pile_from [] (pile_text pile) ≡ Some pile
unfolding pile_from
pile-made pile = ap (pile_from []) (sym (append-nil (pile_text pile))) ∙ pile-run pile []

-- and tokens that make a pile are its tokens
pub made-pile : (pile : List Tree) (tokens : List Token) (out : List Tree) → pile_from pile tokens ≡ Some out → pile_text pile ++ tokens ≡ pile_text out
unfolding pile_from pile_text spelling
made-pile pile [] out e = let same : pile ≡ out = cc e in append-nil (pile_text pile) ∙ ap pile_text same
made-pile pile (token.Constant n ∷ rest) out e = sym (append_assoc (pile_text pile) (token.Constant n ∷ []) rest) ∙ made-pile (Constant n ∷ pile) rest out e
made-pile pile (token.Native i ∷ rest) out e = sym (append_assoc (pile_text pile) (token.Native i ∷ []) rest) ∙ made-pile (Count i ∷ pile) rest out e
made-pile [] (token.Operator o ∷ rest) out e = cc e
made-pile (y ∷ []) (token.Operator o ∷ rest) out e = cc e
made-pile (y ∷ x ∷ pile) (token.Operator o ∷ rest) out e =
    let more = made-pile (Node o x y ∷ pile) rest out e in
    let a = append_assoc (pile_text pile) (spelling x) (spelling y) in
    let b = append_assoc (pile_text pile) (spelling x ++ spelling y) (token.Operator o ∷ rest) in
    let c = append_assoc (spelling x) (spelling y) (token.Operator o ∷ []) in
    let d = append_assoc (pile_text pile) ((spelling x ++ spelling y) ++ (token.Operator o ∷ [])) rest in
    let f = append_assoc (spelling x ++ spelling y) (token.Operator o ∷ []) rest in
    rw (a, b) (rw (← f) (sym d ∙ rw c more))

-- tokens that make one tree of no trees are its spelling
pub one-made : (tokens : List Token) (t : Tree) → pile_from [] tokens ≡ Some (t ∷ []) → tokens ≡ spelling t
unfolding pile_text
one-made tokens t e = made-pile [] tokens (t ∷ []) e

-- and a tree's tokens make that tree alone
pub tree-made : (t : Tree) → pile_from [] (spelling t) ≡ Some (t ∷ [])
unfolding pile_text
tree-made t = pile-made (t ∷ [])
