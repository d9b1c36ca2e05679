-- The fault that heights find is the fault of the definition.
use Rattle.postfix_rules.proofs.Words.{◌≡◌, ◌∙◌, ◌+◌, ◌<◌, ◌≤◌, ◌∷◌, ◌++◌, ℕ, List, [], Option, Some, None, length, take, slice_get, map, refl, sym}
use Rattle.postfix_rules.proofs.Words.{ap, ap₂, subst, arith, append_assoc, append-nil, inl, inr, option_map_or, take_all, take_at, length-append}
use Rattle.postfix_rules.proofs.Words.{map-append, cases_lt, slice_get_past, get_middle, FormulaCause, Token, Tree, Constant, Count, Node, pile_from}
use Rattle.postfix_rules.proofs.Words.{pile_text, spelling, IsFault, Part, Pile, end_cause, fault_from, height_after, place_cause, token_cause}
use Rattle.postfix_rules.proofs.Words.{tokens_among}
use Rattle.postfix_rules.specs.declared.token.Token.TheVariants as token
use Rattle.postfix_rules.proofs.Piles.{pile-made}
use Rattle.postfix_rules.proofs.Spelled.{few-after, one-tree}

pub among-some : (tokens : List Token) → tokens_among (map Some tokens) ≡ tokens
among-some [] = refl
among-some (t ∷ tokens) = ap (λ (ts : List Token). t ∷ ts) (among-some tokens)

-- parts are a pile of at most one list of trees
pile-one : (parts : List Part) (p q : List Tree) → Pile parts p → Pile parts q → p ≡ q
pile-one parts p q a b =
    let same : pile_text p ≡ pile_text q = sym (among-some (pile_text p)) ∙ ap tokens_among (sym a ∙ b) ∙ among-some (pile_text q) in
    let made : Some p ≡ Some q = sym (pile-made p) ∙ ap (pile_from []) same ∙ pile-made q in
    cc made

-- the pile after one part more that has no cause
abbrev after : List Tree → Part → List Tree
after pile None = pile
after pile (Some (token.Constant n)) = Constant n ∷ pile
after pile (Some (token.Native i)) = Count i ∷ pile
after [] (Some (token.Operator o)) = []
after (y ∷ []) (Some (token.Operator o)) = y ∷ []
after (y ∷ x ∷ pile) (Some (token.Operator o)) = Node o x y ∷ pile

-- the place has no cause, whichever pile of at most 16 trees the parts before it are
abbrev pub ClearAt : ℕ → List Part → ℕ → Type 0
ClearAt natives parts j = (trees : List Tree) → Pile (take j parts) trees → length trees ≤ 16 → place_cause natives (length trees) (slice_get parts j) ≡ None

pushed : (above : List Part) (tokens : List Token) (t : Token) → above ≡ map Some tokens → above ++ Some t ∷ [] ≡ map Some (tokens ++ t ∷ [])
pushed above tokens t p = ap (λ (a : List Part). a ++ Some t ∷ []) p ∙ sym (map-append Some tokens (t ∷ []))

-- a part without a cause makes the pile after it
pile-after : (natives : ℕ) (above : List Part) (pile : List Tree) (part : Part) → Pile above pile → token_cause natives (length pile) part ≡ None
    → Pile (above ++ part ∷ []) (after pile part) × (length (after pile part) ≡ height_after (length pile) part)
unfolding pile_text spelling token_cause
pile-after natives above pile None p e = cc e
pile-after natives above pile (Some (token.Constant n)) p e = (pushed above (pile_text pile) (token.Constant n) p, omega arith)
pile-after natives above pile (Some (token.Native i)) p e = (pushed above (pile_text pile) (token.Native i) p, omega arith)
pile-after natives above [] (Some (token.Operator o)) p e = cc e
pile-after natives above (y ∷ []) (Some (token.Operator o)) p e = cc e
pile-after natives above (y ∷ x ∷ pile) (Some (token.Operator o)) p e = (
  pushed above ((pile_text pile ++ spelling x) ++ spelling y) (token.Operator o) p
      ∙ ap (map Some)
      (ap (λ (a : List Token). a ++ token.Operator o ∷ []) (append_assoc (pile_text pile) (spelling x) (spelling y))
      ∙ append_assoc (pile_text pile) (spelling x ++ spelling y) (token.Operator o ∷ [])
      ∙ ap (λ (a : List Token). pile_text pile ++ a) (append_assoc (spelling x) (spelling y) (token.Operator o ∷ []))),
  omega arith,
)

few-after_part : (natives height : ℕ) (part : Part) → height ≤ 16 → token_cause natives height part ≡ None → height_after height part ≤ 16
few-after_part natives height None h e = h
few-after_part natives height (Some t) h e = few-after natives height t h e

-- what the search by heights says of the definition
abbrev pub Says : ℕ → List Part → Option (ℕ × FormulaCause) → Type 0
Says natives parts (Some f) = IsFault natives parts f.0 f.1
Says natives parts None = ((j : ℕ) → j ≤ length parts → ClearAt natives parts j) × ((t : Tree) × (parts ≡ map Some (spelling t)))

-- a place is clear if its one pile has no cause
clear-at : (natives : ℕ) (parts : List Part) (j : ℕ) (pile : List Tree) → Pile (take j parts) pile → place_cause natives (length pile) (slice_get parts j) ≡ None → ClearAt natives parts j
clear-at natives parts j pile p e trees q few =
    let same = pile-one (take j parts) pile trees p q in
    subst (λ (ts : List Tree). place_cause natives (length ts) (slice_get parts j) ≡ None) same e

whole : (parts : List Part) (pile : List Tree) → Pile parts pile → length pile ≡ 1 → (t : Tree) × (parts ≡ map Some (spelling t))
unfolding pile_text
whole parts (t ∷ []) p e = (t, p)
whole parts pile p e = absurd (omega arith)

walk : (natives : ℕ) (parts above rest : List Part) (pile : List Tree) → parts ≡ above ++ rest → Pile above pile → length pile ≤ 16
    → ((j : ℕ) → j < length above → ClearAt natives parts j) → Says natives parts (fault_from natives (length above) (length pile) rest)
unfolding fault_from
walk natives parts above [] pile is p few clear = go (end_cause (length pile)) refl
  where
    same : parts ≡ above
    same = is ∙ append-nil above

    before : Pile (take (length above) parts) pile
    before = rw same (take_all (length above) above (omega arith) ∙ p)

    end : place_cause natives (length pile) (slice_get parts (length above)) ≡ end_cause (length pile)
    end = rw (same, slice_get_past above (length above) (omega arith)) refl

    go : (o : Option FormulaCause) → end_cause (length pile) ≡ o → Says natives parts (option_map_or (λ why. Some (length above, why)) o None)
    go (Some why) e = record {
      within = rw same (omega arith);
      pile = pile;
      before = before;
      few = few;
      here = end ∙ e;
      first = λ j trees lt q f. clear j lt trees q f;
    }
    go None e = (
      λ j le. elim (cases_lt j (length above)) [
        | inl lt ↦ clear j lt
        | inr ge ↦
            let at : j ≡ length above = omega (arith, ap length same) in
            rw at (clear-at natives parts (length above) pile before (end ∙ e))
      ],
      whole parts pile (same ∙ p) (one-tree (length pile) e),
    )
walk natives parts above (t ∷ rest) pile is p few clear = go (token_cause natives (length pile) t) refl (λ a b c d. walk natives parts (above ++ t ∷ []) rest (after pile t) a b c d)
  where
    before : Pile (take (length above) parts) pile
    before = rw is (take_at above (t ∷ rest) (length above) refl ∙ p)

    here : place_cause natives (length pile) (slice_get parts (length above)) ≡ token_cause natives (length pile) t
    here = rw (is, get_middle above t rest) refl

    go : (o : Option FormulaCause) → token_cause natives (length pile) t ≡ o
        → (parts ≡ (above ++ t ∷ []) ++ rest → Pile (above ++ t ∷ []) (after pile t) → length (after pile t) ≤ 16
        → ((j : ℕ) → j < length (above ++ t ∷ []) → ClearAt natives parts j) → Says natives parts (fault_from natives (length (above ++ t ∷ [])) (length (after pile t)) rest))
        → Says natives parts (option_map_or (λ why. Some (length above, why)) o (fault_from natives (length above + 1) (height_after (length pile) t) rest))
    go (Some why) e next = record {
      within = rw (is, length-append above (t ∷ rest)) (omega arith);
      pile = pile;
      before = before;
      few = few;
      here = here ∙ e;
      first = λ j trees lt q f. clear j lt trees q f;
    }
    go None e next =
        let a = pile-after natives above pile t p e in
        let n : length (above ++ t ∷ []) ≡ length above + 1 = length-append above (t ∷ []) ∙ omega arith in
        let more = next (is ∙ sym (append_assoc above (t ∷ []) rest)) a.0
        (rw a.1 (few-after_part natives (length pile) t few e))
        (λ j lt. elim (cases_lt j (length above)) [
          | inl less ↦ clear j less
          | inr ge ↦
              let at : j ≡ length above = omega (arith, n) in
              rw at (clear-at natives parts (length above) pile before (here ∙ e))
        ]) in
        rw (← n, ← a.1) more

-- the first fault that heights find is the fault of the definition, and if they find none the parts spell a tree and no place is at fault
pub faults-found : (natives : ℕ) (parts : List Part) → Says natives parts (fault_from natives 0 0 parts)
unfolding pile_text
faults-found natives parts = walk natives parts [] parts [] refl refl (omega arith) (λ j lt. absurd (omega arith))

some≢none : {X : Type 0} (x : X) (o : Option X) → o ≡ Some x → o ≡ None → ⊥
some≢none x o a b = cc (sym a ∙ b)

-- two faults of the same parts are one
fault-one : (natives : ℕ) (parts : List Part) (k l : ℕ) (a b : FormulaCause) → IsFault natives parts k a → IsFault natives parts l b → (k ≡ l) × (a ≡ b)
fault-one natives parts k l a b f g = elim (cases_lt k l) [
  | inl lt ↦ absurd (some≢none _ _ f.here (g.first k f.pile lt f.before f.few))
  | inr ge ↦ elim (cases_lt l k) [
    | inl less ↦ absurd (some≢none _ _ g.here (f.first l g.pile less g.before g.few))
    | inr le ↦
        let at : k ≡ l = omega arith in
        let g2 = subst (λ (n : ℕ). IsFault natives parts n b) (sym at) g in
        let piles = pile-one (take k parts) f.pile g2.pile f.before g2.before in
        let why = sym f.here ∙ ap (λ (ts : List Tree). place_cause natives (length ts) (slice_get parts k)) piles ∙ g2.here in
        let same : a ≡ b = cc why in
        (at, same)
  ]
]

-- the fault of the definition is found
pub found-faults : (natives : ℕ) (parts : List Part) (k : ℕ) (why : FormulaCause) → IsFault natives parts k why → fault_from natives 0 0 parts ≡ Some (k, why)
found-faults natives parts k why f = go (fault_from natives 0 0 parts) refl (faults-found natives parts)
  where
    go : (o : Option (ℕ × FormulaCause)) → fault_from natives 0 0 parts ≡ o → Says natives parts o → o ≡ Some (k, why)
    go (Some g) e s = let q = fault-one natives parts g.0 k g.1 why s f in ap₂ (λ (n : ℕ) (c : FormulaCause). Some (n, c)) q.0 q.1
    go None e s = absurd (some≢none why _ f.here (s.0 k f.within f.pile f.before f.few))
