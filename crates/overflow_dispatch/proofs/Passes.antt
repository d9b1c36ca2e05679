-- One index more.
use Rattle.std.proofs.Common.{◌≡◌, ◌+◌, ◌≤◌, ℕ, zero, suc, List, [], ◌∷◌, drop, replicate, refl, ap, arith, Option, Some, None, slice_get}
use Rattle.overflow_dispatch.specs.Passing.{carried_from, AreCounters, IsEnd}

pub drop_at : {X : Type 0} (xs : List X) (i : ℕ) (x : X) → slice_get xs i ≡ Some x → drop i xs ≡ x ∷ drop (suc i) xs
drop_at [] i x e = cc
drop_at (y ∷ xs) zero x e = let same : y ≡ x = cc in ap (λ z. z ∷ xs) same
drop_at (y ∷ xs) (suc i) x e = drop_at xs i x e

none_armed : (n k c : ℕ) → slice_get (replicate n None) k ≡ Some (Some c) → ⊥
none_armed zero k c e = cc
none_armed (suc n) zero c e = cc
none_armed (suc n) (suc k) c e = none_armed n k c e

pub AreCounters-none : AreCounters (replicate 32 None)
AreCounters-none = record { places = refl; below = λ k c e. absurd (none_armed 32 k c e) }

pub IsEnd-none : IsEnd (replicate 32 None) 0
IsEnd-none = record { within = omega arith; none = λ k c past e. none_armed 32 k c e }

-- nothing is passed from the end on
pub passed_past : (carry i end : ℕ) (counters : List (Option ℕ)) → ((k c : ℕ) → end ≤ k → slice_get counters k ≡ Some (Some c) → ⊥)
    → carried_from i carry (drop end counters) ≡ []
passed_past carry i zero [] none = refl
passed_past carry i (suc end) [] none = refl
passed_past carry i zero (None ∷ counters) none = passed_past carry (i + 1) zero counters (λ k c past e. none (suc k) c (omega arith) e)
passed_past carry i zero (Some d ∷ counters) none = absurd (none 0 d (omega arith) refl)
passed_past carry i (suc end) (x ∷ counters) none = passed_past carry i end counters (λ k c past e. none (suc k) c (omega arith) e)
