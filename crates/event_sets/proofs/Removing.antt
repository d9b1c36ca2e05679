-- Lists with an item put anew, and with an item gone.
use Rattle.std.proofs.Common.{◌≡◌, ◌≢◌, ◌⊎◌, inl, inr, ℕ, zero, suc, List, [], ◌∷◌, remove, refl, ap, arith, slice_get, slice_set, Some}

-- where an item of a list without the one at p stood
abbrev pub stood : ℕ → ℕ → ℕ
stood zero i = suc i
stood (suc p) zero = zero
stood (suc p) (suc i) = suc (stood p i)

pub stood_apart : (p i j : ℕ) → stood p i ≡ stood p j → i ≡ j
stood_apart zero i j e = omega arith
stood_apart (suc p) zero zero e = refl
stood_apart (suc p) zero (suc j) e = absurd (omega arith)
stood_apart (suc p) (suc i) zero e = absurd (omega arith)
stood_apart (suc p) (suc i) (suc j) e = ap suc (stood_apart p i j (omega arith))

pub get_removed : {X : Type 0} (xs : List X) (p i : ℕ) → slice_get (remove xs p) i ≡ slice_get xs (stood p i)
get_removed [] zero i = refl
get_removed [] (suc p) zero = refl
get_removed [] (suc p) (suc i) = refl
get_removed (x ∷ xs) zero i = refl
get_removed (x ∷ xs) (suc p) zero = refl
get_removed (x ∷ xs) (suc p) (suc i) = get_removed xs p i

-- an item of a list with one put anew is that one, or stood there
pub get_put : {X : Type 0} (xs : List X) (p : ℕ) (x : X) (i : ℕ) (y : X) → slice_get (slice_set xs p x) i ≡ Some y → ((i ≡ p) × (x ≡ y)) ⊎ ((i ≢ p) × (slice_get xs i ≡ Some y))
get_put [] p x i y e = cc
get_put (z ∷ xs) zero x zero y e = inl (refl, cc)
get_put (z ∷ xs) zero x (suc i) y e = inr ((λ q. absurd (omega arith)), e)
get_put (z ∷ xs) (suc p) x zero y e = inr ((λ q. absurd (omega arith)), e)
get_put (z ∷ xs) (suc p) x (suc i) y e = elim (get_put xs p x i y e) [ inl h ↦ inl (ap suc h.0, h.1) | inr h ↦ inr ((λ q. h.0 (omega arith)), h.1) ]
