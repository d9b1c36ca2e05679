-- A list with one more item at the end.
use Rattle.std.proofs.Common.{◌≡◌, ◌⊎◌, inl, inr, ℕ, zero, suc, List, [], ◌∷◌, ◌++◌, length, refl, ap, slice_get, Some}

-- an item of a list with one more at the end is one of the list, or that one
pub get_pushed : {X : Type 0} (xs : List X) (x : X) (i : ℕ) (y : X) → slice_get (xs ++ x ∷ []) i ≡ Some y → (slice_get xs i ≡ Some y) ⊎ ((i ≡ length xs) × (x ≡ y))
get_pushed [] x zero y e = inr (refl, cc)
get_pushed [] x (suc i) y e = cc
get_pushed (z ∷ xs) x zero y e = inl e
get_pushed (z ∷ xs) x (suc i) y e = elim (get_pushed xs x i y e) [ inl h ↦ inl h | inr h ↦ inr (ap suc h.0, h.1) ]
