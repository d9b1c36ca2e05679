-- Arrays that are filled from the front.
use Rattle.std.proofs.Common.{◌≡◌, ◌∙◌, ◌<◌, ◌+◌, ℕ, List, [], ◌∷◌, ◌++◌, Some, ap, arith, drop, length, map, set, slice_get, sym, take}
use Rattle.papi_c.proofs.Words.{drop-drop, drop-set-lt, map-append, take_more_set, take_at}

-- one item more at the end of what is written
pub taken_on : {X : Type 0} (xs out : List X) (i : ℕ) (x : X) → i < length out → take i out ≡ take i xs → slice_get xs i ≡ Some x
    → take (i + 1) (set out i x) ≡ take (i + 1) xs
taken_on {X} xs out i x less so_far here =
    take_more_set out i x less ∙ ap (λ (ys : List X). ys ++ x ∷ []) so_far ∙ sym (take_at xs i x here)

-- the same of items that are written as something else
pub mapped_on : {X : Type 0} (f : X → ℕ) (xs : List X) (out : List ℕ) (i : ℕ) (e : X) (x : ℕ) → i < length out → take i out ≡ map f (take i xs) → slice_get xs i ≡ Some e → x ≡ f e
    → take (i + 1) (set out i x) ≡ map f (take (i + 1) xs)
mapped_on f xs out i e x less so_far here is =
    take_more_set out i x less ∙ ap (λ (ys : List ℕ). ys ++ x ∷ []) so_far ∙ ap (λ (y : ℕ). map f (take i xs) ++ y ∷ []) is
    ∙ sym (ap (map f) (take_at xs i e here) ∙ map-append f (take i xs) (e ∷ []))

-- what is after it stays
pub rest_on : {X : Type 0} (out before : List X) (i : ℕ) (x : X) → drop i out ≡ drop i before → drop (i + 1) (set out i x) ≡ drop (i + 1) before
rest_on out before i x e =
    drop-set-lt (i + 1) out i x (omega arith) ∙ sym (drop-drop 1 i out) ∙ ap (drop 1) e ∙ drop-drop 1 i before
