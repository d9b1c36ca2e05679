-- The first of the assignments that are listed is the least one.
use Rattle.call_laws.proofs.Words.{◌≡◌, ℕ, zero, suc, ◌≤◌, inl, inr, refl, sym, subst, ◌∙◌, arith, List, [], ◌∷◌, get_or, Some, slice_get, true}
use Rattle.call_laws.proofs.Words.{Assignable, AtOrBefore, IsLeast, IsBefore, assigns, least, AreMasks, is_assignable_true, In, Ordered, listed}
use Rattle.call_laws.proofs.Words.{of_listed, ordered_assigns}
use Rattle.std.specs.Prelude.{Option, None, is_some, unwrap_or}

before_at : (first second : List ℕ) → IsBefore first second → AtOrBefore first second
before_at [] second h k below agrees = absurd h
before_at (x ∷ xs) [] h k below agrees = absurd h
before_at (x ∷ xs) (y ∷ ys) (inl lower) zero below agrees = omega arith
before_at (x ∷ xs) (y ∷ ys) (inl lower) (suc k) below agrees = let same : x ≡ y = agrees 0 (omega arith) in absurd (omega arith)
before_at (x ∷ xs) (y ∷ ys) (inr both) zero below agrees = omega (arith, both.0)
before_at (x ∷ xs) (y ∷ ys) (inr both) (suc k) below agrees = before_at xs ys both.1 k (omega arith) (λ i lower. agrees (suc i) (omega arith))

same_at : (first second : List ℕ) → first ≡ second → AtOrBefore first second
same_at first second same k below agrees = subst (λ (zs : List ℕ). get_or first k 0 ≤ get_or zs k 0) same (omega arith)

-- the first of a list in order stands at or before each
first_before : (xss : List (List ℕ)) (chosen other : List ℕ) → Ordered IsBefore xss → slice_get xss 0 ≡ Some chosen → In other xss → AtOrBefore chosen other
first_before [] chosen other ordered e h = cc
first_before (xs ∷ xss) chosen other ordered e (inl same) =
    let first : xs ≡ chosen = cc in
    same_at chosen other (sym first ∙ same)
first_before (xs ∷ xss) chosen other ordered e (inr h) =
    let first : xs ≡ chosen = cc in
    subst (λ (zs : List ℕ). AtOrBefore zs other) first (before_at xs other (ordered.0 other h))

first_in : (xss : List (List ℕ)) (chosen : List ℕ) → slice_get xss 0 ≡ Some chosen → In chosen xss
first_in [] chosen e = cc
first_in (xs ∷ xss) chosen e = inl (let first : xs ≡ chosen = cc in first)

-- the first that is listed is the least
first_is_least : (allowed chosen : List ℕ) → AreMasks allowed → least allowed ≡ Some chosen → IsLeast allowed chosen
first_is_least allowed chosen masks e = grind (arith, of_listed, first_in, assigns, first_before, ordered_assigns, listed)

-- a list that has an assignment has a least one, which is the one that is computed
pub least_chosen : (allowed : List ℕ) → AreMasks allowed → Assignable allowed → IsLeast allowed (unwrap_or (least allowed) [])
least_chosen allowed masks h = go (least allowed) refl (is_assignable_true allowed masks h) where
  go : (o : Option (List ℕ)) → least allowed ≡ o → is_some o ≡ true → IsLeast allowed (unwrap_or o [])
  go None e some = cc
  go (Some chosen) e some = first_is_least allowed chosen masks e
