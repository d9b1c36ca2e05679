-- A text in infix order reads as the grammar says, and no text both writes a tree and is at fault.
use Rattle.postfix_rules.proofs.Words.{◌≡◌, ◌∙◌, ◌+◌, ◌<◌, ◌∷◌, ◌++◌, ℕ, Bool, true, false, List, [], ap₂, ◌⊎◌, Option, Some, None, inl, inr, length}
use Rattle.postfix_rules.proofs.Words.{map, refl, sym, ap, subst, arith, cases_order, map-append, fold-append, slice_get_within, FormulaCause}
use Rattle.postfix_rules.proofs.Words.{Operator, Token, FormulaView, Written, Two, Inside, need, wording, HasCauseAt, IsEndFault, IsInfixFault}
use Rattle.postfix_rules.proofs.Words.{WritesTree, begins_factor, cause_at, must_begin, open_after, open_at_end, FirstInfixFaults, FromOneInfix}
use Rattle.postfix_rules.proofs.Words.{SameTree, infix_of, InfixPart, infix_parts, RefusedFormula, Tree, spelling}
use Rattle.std.specs.Prelude.{Result, Ok, Err, fold, slice_get}
use Rattle.postfix_rules.specs.declared.fault.FormulaCause.TheVariants as cause
use Rattle.postfix_rules.specs.declared.infix_token.InfixToken.TheVariants as sign
use Rattle.postfix_rules.specs.declared.token.Token.TheVariants as token
use Rattle.postfix_rules.proofs.InfixAlone.{one_tree}
use Rattle.postfix_rules.proofs.InfixSound.{Says, text-says}

-- ---- what a written formula leaves at its end

abbrev written_parts : Written → List InfixPart
written_parts w = map Some (wording w)

two-parts : (o : Operator) (x y : Written) → written_parts (Two o x y) ≡ written_parts x ++ (Some (sign.Token (token.Operator o)) ∷ written_parts y)
two-parts o x y = map-append Some (wording x) (sign.Token (token.Operator o) ∷ wording y)

inside-parts : (x : Written) → written_parts (Inside x) ≡ Some sign.Open ∷ (written_parts x ++ (Some sign.Close ∷ []))
inside-parts x = ap (λ (ps : List InfixPart). Some sign.Open ∷ ps) (map-append Some (wording x) (sign.Close ∷ []))

-- no factor must begin after it
after-written : (w : Written) (must : Bool) → fold (λ (b : Bool) (p : InfixPart). begins_factor p) must (written_parts w) ≡ false
after-written (Two o x y) must =
    ap (fold (λ (b : Bool) (p : InfixPart). begins_factor p) must) (two-parts o x y)
    ∙ fold-append (λ (b : Bool) (p : InfixPart). begins_factor p) must (written_parts x) (Some (sign.Token (token.Operator o)) ∷ written_parts y)
    ∙ after-written y true
after-written (Inside x) must =
    ap (fold (λ (b : Bool) (p : InfixPart). begins_factor p) must) (inside-parts x)
    ∙ fold-append (λ (b : Bool) (p : InfixPart). begins_factor p) true (written_parts x) (Some sign.Close ∷ [])
after-written w must = refl

-- as many parentheses are open as before it
open-written : (w : Written) (depth : ℕ) → fold open_after depth (written_parts w) ≡ depth
open-written (Two o x y) depth =
    ap (fold open_after depth) (two-parts o x y)
    ∙ fold-append open_after depth (written_parts x) (Some (sign.Token (token.Operator o)) ∷ written_parts y)
    ∙ ap (λ (d : ℕ). fold open_after d (written_parts y)) (open-written x depth)
    ∙ open-written y depth
open-written (Inside x) depth =
    let inside = open-written x (depth + 1) in
    ap (fold open_after depth) (inside-parts x)
    ∙ fold-append open_after (depth + 1) (written_parts x) (Some sign.Close ∷ [])
    ∙ ap (λ (d : ℕ). open_after d (Some sign.Close)) inside
    ∙ omega arith
open-written w depth = refl

-- ---- a tree rules out a fault

end-sound : (natives : ℕ) (parts : List InfixPart) (tree : Tree) (why : FormulaCause) → WritesTree natives parts tree → IsEndFault parts why → ⊥
end-sound natives parts tree cause.OperandMissing writes h =
    let w = writes.writes in
    let ends : must_begin parts ≡ false = ap must_begin w.2 ∙ after-written w.0 true in
    cc
end-sound natives parts tree cause.Unbalanced writes h =
    let w = writes.writes in
    let closed : open_at_end parts ≡ 0 = ap open_at_end w.2 ∙ open-written w.0 0 in
    let deep = h.1 in
    omega arith
end-sound natives parts tree cause.TooDeep writes h =
    let same : tree ≡ h.2.0 = one_tree parts tree h.2.0 writes.writes h.2.1 in
    let few = writes.few in
    let many = h.2.2 in
    let e = ap need same in
    omega arith
end-sound natives parts tree why writes h = h

tree-or-fault : (natives : ℕ) (parts : List InfixPart) (tree : Tree) (k : ℕ) (why : FormulaCause) → WritesTree natives parts tree → IsInfixFault natives parts k why → ⊥
tree-or-fault natives parts tree k why writes fault = go (slice_get parts k) refl fault.here
  where
    go : (o : Option InfixPart) → slice_get parts k ≡ o → HasCauseAt natives parts k why o → ⊥
    go None e has = end-sound natives parts tree why writes has.1
    go (Some part) e has =
        let clear : cause_at natives parts k part ≡ None = writes.clear k part (slice_get_within parts k part e) e in
        cc

-- ---- a text has one fault

-- the causes at the end of the parts
abbrev EndCauses : List InfixPart → FormulaCause → Type 0
EndCauses parts why = ((why ≡ cause.OperandMissing) × (must_begin parts ≡ true)) ⊎ (((why ≡ cause.Unbalanced) × (must_begin parts ≡ false) × (0 < open_at_end parts))
    ⊎ ((why ≡ cause.TooDeep) × (must_begin parts ≡ false) × (open_at_end parts ≡ 0)))

end-causes : (parts : List InfixPart) (why : FormulaCause) → IsEndFault parts why → EndCauses parts why
end-causes parts cause.OperandMissing h = inl (refl, h)
end-causes parts cause.Unbalanced h = inr (inl (refl, h.0, h.1))
end-causes parts cause.TooDeep h = inr (inr (refl, h.0, h.1))
end-causes parts why h = absurd h

one-end : (parts : List InfixPart) (a b : FormulaCause) → EndCauses parts a → EndCauses parts b → a ≡ b
one-end parts a b (inl h) (inl g) = h.0 ∙ sym g.0
one-end parts a b (inl h) (inr (inl g)) = cc (h.1, g.1)
one-end parts a b (inl h) (inr (inr g)) = cc (h.1, g.1)
one-end parts a b (inr (inl h)) (inl g) = cc (h.1, g.1)
one-end parts a b (inr (inl h)) (inr (inl g)) = h.0 ∙ sym g.0
one-end parts a b (inr (inl h)) (inr (inr g)) = absurd (omega (arith, h.2, g.2))
one-end parts a b (inr (inr h)) (inl g) = cc (h.1, g.1)
one-end parts a b (inr (inr h)) (inr (inl g)) = absurd (omega (arith, h.2, g.2))
one-end parts a b (inr (inr h)) (inr (inr g)) = h.0 ∙ sym g.0

one-cause : (natives : ℕ) (parts : List InfixPart) (k : ℕ) (a b : FormulaCause) → IsInfixFault natives parts k a → IsInfixFault natives parts k b → a ≡ b
one-cause natives parts k a b f g = go (slice_get parts k) f.here g.here
  where
    go : (o : Option InfixPart) → HasCauseAt natives parts k a o → HasCauseAt natives parts k b o → a ≡ b
    go None h i = one-end parts a b (end-causes parts a h.1) (end-causes parts b i.1)
    go (Some part) h i = let same : Some a ≡ Some b = sym h ∙ i in cc same

-- no fault is before another
none-before : (natives : ℕ) (parts : List InfixPart) (j k : ℕ) (a b : FormulaCause) → j < k → IsInfixFault natives parts j a → IsInfixFault natives parts k b → ⊥
none-before natives parts j k a b lt f g = go (slice_get parts j) refl f.here
  where
    past : (o : Option InfixPart) → slice_get parts k ≡ o → HasCauseAt natives parts k b o → length parts < k → ⊥
    past None e h end = omega (arith, h.0)
    past (Some part) e h end = omega (arith, slice_get_within parts k part e)

    go : (o : Option InfixPart) → slice_get parts j ≡ o → HasCauseAt natives parts j a o → ⊥
    go None e h = past (slice_get parts k) refl g.here (omega (arith, h.0))
    go (Some part) e h = let clear : cause_at natives parts j part ≡ None = g.first j part lt e in cc (clear, h)

record SameFault (j k : ℕ) (a b : FormulaCause) : Type 0 where
  place : j ≡ k
  why : a ≡ b

one-fault : (natives : ℕ) (parts : List InfixPart) (j k : ℕ) (a b : FormulaCause) → IsInfixFault natives parts j a → IsInfixFault natives parts k b → SameFault j k a b
one-fault natives parts j k a b f g = elim (cases_order j k) [
  | inl e ↦
      let P : ℕ → Type 0 = λ n. IsInfixFault natives parts n a in
      record { place = e; why = one-cause natives parts k a b (subst P e f) g }
  | inr (inl lt) ↦ absurd (none-before natives parts j k a b lt f g)
  | inr (inr gt) ↦ absurd (none-before natives parts k j b a gt g f)
]

-- ---- the laws

abbrev formula : List Token → ℕ → Result FormulaView RefusedFormula
formula tokens natives = Ok (record { tokens = tokens; natives = natives })

abbrev refusal : ℕ → FormulaCause → Result FormulaView RefusedFormula
refusal place why = Err (record { place = place; cause = why })

pub same_tree : SameTree
same_tree natives text f = (λ e. subst (Says natives (infix_parts text)) e (text-says natives text), λ h. back h (infix_of natives text) (text-says natives text))
  where
    back : ((tree : Tree) × WritesTree natives (infix_parts text) tree × (f.tokens ≡ spelling tree) × (f.natives ≡ natives))
        → (r : Result FormulaView RefusedFormula) → Says natives (infix_parts text) r → r ≡ Ok f
    back h (Ok g) s =
        let same : s.0 ≡ h.0 = one_tree (infix_parts text) s.0 h.0 s.1.writes h.1.writes in
        let tokens : g.tokens ≡ f.tokens = s.2 ∙ ap spelling same ∙ sym h.2 in
        ap₂ formula tokens (s.3 ∙ sym h.3)
    back h (Err r) s = absurd (tree-or-fault natives (infix_parts text) h.0 s.0 r.cause h.1 s.2)

pub first_infix_faults : FirstInfixFaults
first_infix_faults natives text k why = (
  λ e.
      let s : Says natives (infix_parts text) (refusal (k + 1) why) = subst (Says natives (infix_parts text)) e (text-says natives text) in
      let P : ℕ → Type 0 = λ n. IsInfixFault natives (infix_parts text) n why in
      subst P (omega (arith, s.1)) s.2,
  λ h. back h (infix_of natives text) (text-says natives text),
)
  where
    back : IsInfixFault natives (infix_parts text) k why → (r : Result FormulaView RefusedFormula) → Says natives (infix_parts text) r → r ≡ refusal (k + 1) why
    back h (Ok g) s = absurd (tree-or-fault natives (infix_parts text) s.0 k why s.1 h)
    back h (Err r) s =
        let same = one-fault natives (infix_parts text) s.0 k r.cause why s.2 h in
        ap₂ refusal (s.1 ∙ ap (λ (n : ℕ). n + 1) same.place) same.why

pub from_one_infix : FromOneInfix
from_one_infix natives text refused e =
    let s : Says natives (infix_parts text) (Err refused) = subst (Says natives (infix_parts text)) e (text-says natives text) in
    omega (arith, s.1)
