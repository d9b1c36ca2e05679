-- The stack as a list, and what a token without a cause keeps.
use Rattle.postfix_rules.proofs.Words.{◌≡◌, ◌∙◌, ◌+◌, ◌-◌, ◌<◌, ◌≤◌, ◌∷◌, ◌++◌, ℕ, List, [], Some, None, ℤ, length, drop, take, reverse, map, get_or}
use Rattle.postfix_rules.proofs.Words.{refl, sym, ap, arith, append_assoc, append-nil, set, drop_more, drop_all, take_more, take_more_set}
use Rattle.postfix_rules.proofs.Words.{reverse-append, Operator, Token, Tree, Node, spelling, fault_from, height_after, token_cause, applied}
use Rattle.postfix_rules.proofs.Words.{formula_value, tree_value, pile, stack_from, stepped}
use Rattle.postfix_rules.specs.declared.token.Token.TheVariants as token
use Rattle.postfix_rules.proofs.Piles.{one-made}
use Rattle.postfix_rules.proofs.Spelled.{clear-first, end-one, few-after, one-spelled}

-- ---- the stack of numbers finds the tree's value

stack-run : (counts : List ℤ) (t : Tree) (stack : List ℤ) (rest : List Token) → stack_from counts stack (spelling t ++ rest) ≡ stack_from counts (tree_value counts t ∷ stack) rest
unfolding stack_from tree_value spelling
stack-run counts (Node o x y) stack rest =
    let a = append_assoc (spelling x) (spelling y ++ (token.Operator o ∷ [])) rest in
    let b = append_assoc (spelling y) (token.Operator o ∷ []) rest in
    rw (a, b) (stack-run counts x stack (spelling y ++ (token.Operator o ∷ rest)) ∙ stack-run counts y (tree_value counts x ∷ stack) (token.Operator o ∷ rest))
stack-run counts t stack rest = refl

stack-value : (counts : List ℤ) (t : Tree) → stack_from counts [] (spelling t) ≡ tree_value counts t ∷ []
unfolding stack_from
stack-value counts t = ap (stack_from counts []) (sym (append-nil (spelling t))) ∙ stack-run counts t [] []

value-left : (counts : List ℤ) (tokens : List Token) → fault_from (length counts) 0 0 (map Some tokens) ≡ None → stack_from counts [] tokens ≡ formula_value counts tokens ∷ []
value-left counts tokens e =
    let one = one-spelled (length counts) 0 0 [] tokens refl e in
    ap (stack_from counts []) (one-made tokens one.0 one.1) ∙ stack-value counts one.0 ∙ rw (one.1) refl

-- ---- the array as a pile

pub push-pile : (stack : List ℤ) (h : ℕ) (x : ℤ) → h < length stack → pile (set stack h x) (h + 1) ≡ x ∷ pile stack h
push-pile stack h x lt = ap reverse (take_more_set stack h x lt) ∙ reverse-append (take h stack) (x ∷ [])

top-pile : (stack : List ℤ) (k : ℕ) (d : ℤ) → k < length stack → pile stack (k + 1) ≡ get_or stack k d ∷ pile stack k
top-pile stack k d lt = ap reverse (take_more stack k d lt) ∙ reverse-append (take k stack) (get_or stack k d ∷ [])

two-pile : (stack : List ℤ) (h : ℕ) (d : ℤ) → 2 ≤ h → h ≤ length stack → pile stack h ≡ get_or stack (h - 1) d ∷ get_or stack (h - 2) d ∷ pile stack (h - 2)
two-pile stack h d two le =
    let one : h - 1 + 1 ≡ h = omega (arith, two) in
    let more : h - 2 + 1 ≡ h - 1 = omega (arith, two) in
    ap (pile stack) (sym one) ∙ top-pile stack (h - 1) d (omega (arith, two, le))
    ∙ ap (λ (t : List ℤ). get_or stack (h - 1) d ∷ t) (ap (pile stack) (sym more) ∙ top-pile stack (h - 2) d (omega (arith, two, le)))

-- an operator's step
pub operator-pile : (counts stack : List ℤ) (h : ℕ) (o : Operator) (z d : ℤ) → 2 ≤ h → h ≤ length stack → z ≡ applied o (get_or stack (h - 2) d) (get_or stack (h - 1) d)
    → pile (set stack (h - 2) z) (h - 1) ≡ stepped counts (token.Operator o) (pile stack h)
operator-pile counts stack h o z d two le is =
    let more : h - 2 + 1 ≡ h - 1 = omega (arith, two) in
    ap (pile (set stack (h - 2) z)) (sym more) ∙ push-pile stack (h - 2) z (omega (arith, two, le))
    ∙ ap (λ (x : ℤ). x ∷ pile stack (h - 2)) is ∙ sym (ap (stepped counts (token.Operator o)) (two-pile stack h d two le))

-- ---- the loop

pub record Runs (counts : List ℤ) (tokens : List Token) (i height : ℕ) (stack : List ℤ) : Type 0 where
  pub faultless : fault_from (length counts) i height (map Some (drop i tokens)) ≡ None
  pub few : height ≤ 16
  pub sixteen : length stack ≡ 16
  pub same : stack_from counts [] tokens ≡ stack_from counts (pile stack height) (drop i tokens)

pub token-clear : (counts : List ℤ) (ts : List Token) (i h : ℕ) (stack : List ℤ) (t : Token) → i < length ts → Runs counts ts i h stack → token_cause (length counts) h (Some (get_or ts i t)) ≡ None
token-clear counts ts i h stack t lt r =
    (clear-first (length counts) i h (Some (get_or ts i t)) (map Some (drop (i + 1) ts)) (rw (drop_more ts i t lt) at r.faultless)).now

pub runs-more : (counts : List ℤ) (ts : List Token) (i h g : ℕ) (old new : List ℤ) (t : Token) → i < length ts → length new ≡ 16 → Runs counts ts i h old
    → g ≡ height_after h (Some (get_or ts i t)) → pile new g ≡ stepped counts (get_or ts i t) (pile old h) → Runs counts ts (i + 1) g new
unfolding stack_from
runs-more counts ts i h g old new t lt sixteen r g_is stack_is =
    let rest = drop (i + 1) ts in
    let c = clear-first (length counts) i h (Some (get_or ts i t)) (map Some rest) (rw (drop_more ts i t lt) at r.faultless) in
    record {
      faultless = rw g_is c.next;
      sixteen = sixteen;
      few = rw g_is (few-after (length counts) h (get_or ts i t) r.few c.now);
      same = r.same ∙ ap (stack_from counts (pile old h)) (drop_more ts i t lt) ∙ ap (λ (s : List ℤ). stack_from counts s rest) (sym stack_is);
    }

stack-end : (cs st : List ℤ) → stack_from cs st [] ≡ st
unfolding stack_from
stack-end cs st = refl

pub ends : (counts : List ℤ) (ts : List Token) (i h : ℕ) (stack : List ℤ) (d : ℤ) → length ts ≤ i → Runs counts ts i h stack → fault_from (length counts) 0 0 (map Some ts) ≡ None
    → get_or stack 0 d ≡ formula_value counts ts
ends counts ts i h stack d le r e =
    let sixteen = r.sixteen in
    let end : drop i ts ≡ [] = drop_all i ts le in
    let one : h ≡ 1 = end-one (length counts) i h (rw end at r.faultless) in
    let is : formula_value counts ts ∷ [] ≡ pile stack h = sym (value-left counts ts e) ∙ r.same ∙ rw end (stack-end counts (pile stack h)) in
    let first : pile stack h ≡ get_or stack 0 d ∷ [] = ap (pile stack) one ∙ top-pile stack 0 d (omega (arith, sixteen)) in
    sym (cc (is ∙ first))
