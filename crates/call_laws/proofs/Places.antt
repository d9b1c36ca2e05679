-- Sets under their numbers, if one is changed or put anew; and tests of a number.
use Rattle.call_laws.proofs.Words.{◌≡◌, ◌≢◌, ℕ, zero, suc, true, false, List, [], ◌∷◌, refl, ap, arith, slice_set, Option, Some, None, option_map}
use Rattle.call_laws.proofs.Words.{eq-eqb, ne_eqb, at, change, free, is_number}

pub at-change_same : {X : Type 0} (f : X → X) (places : List (Option X)) (k : ℕ) → at (change f places k) k ≡ option_map f (at places k)
at-change_same f [] k = refl
at-change_same f (x ∷ places) zero = refl
at-change_same f (x ∷ places) (suc k) = at-change_same f places k

pub at-put_other : {X : Type 0} (places : List (Option X)) (k j : ℕ) (v : Option X) → j ≢ k → at (slice_set places k v) j ≡ at places j
at-put_other [] k j v apart = refl
at-put_other (x ∷ places) zero zero v apart = absurd (apart refl)
at-put_other (x ∷ places) zero (suc j) v apart = refl
at-put_other (x ∷ places) (suc k) zero v apart = refl
at-put_other (x ∷ places) (suc k) (suc j) v apart = at-put_other places k j v (λ e. apart (ap suc e))

-- what is put at a number is what is there then, if anything is
pub at-put_same : {X : Type 0} (places : List (Option X)) (k : ℕ) (v w : X) → at (slice_set places k (Some v)) k ≡ Some w → v ≡ w
at-put_same [] k v w e = cc
at-put_same (x ∷ places) zero v w e = cc
at-put_same (x ∷ places) (suc k) v w e = at-put_same places k v w e

pub at-put_none : {X : Type 0} (places : List (Option X)) (k : ℕ) → at (slice_set places k None) k ≡ None
at-put_none [] k = refl
at-put_none (x ∷ places) zero = refl
at-put_none (x ∷ places) (suc k) = at-put_none places k

-- nothing is under the least free number
pub at-free : {X : Type 0} (places : List (Option X)) (k : ℕ) → k ≡ free places → at places k ≡ None
at-free [] k e = refl
at-free (None ∷ places) zero e = refl
at-free (None ∷ places) (suc k) e = absurd (omega (arith, e))
at-free (Some x ∷ places) zero e = absurd (omega (arith, e))
at-free (Some x ∷ places) (suc k) e = at-free places k (omega (arith, e))

-- ---- tests of a number

pub is_number-same : (k : ℕ) → is_number k (Some k) ≡ true
is_number-same k = eq-eqb k k refl

pub is_number-other : (j k : ℕ) → j ≢ k → is_number j (Some k) ≡ false
is_number-other j k apart = ne_eqb k j (λ e. apart (let s : j ≡ k = cc in s))
