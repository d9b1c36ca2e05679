-- What the test on a list of masks says, and masks that are appended.
use Rattle.counter_alloc.proofs.Words.{◌≡◌, ℕ, zero, suc, ◌<◌, ◌≤◌, ◌^◌, inl, inr, true, false, List, [], ◌∷◌, ◌++◌, get_or, refl, sym, arith, Result}
use Rattle.counter_alloc.proofs.Words.{Ok, Err, is_ok, OnOk, OnErr, pow_mono, w32, bit_at, trailing_zeros, cases_Bool, bit_at-trailing_zeros}
use Rattle.counter_alloc.proofs.Words.{Assignable, is_assignable, AreMasks}
use Rattle.counter_alloc.proofs.Listed.{lists_some}

-- the test says yes of a list that has an assignment
pub is_assignable_true : (allowed : List ℕ) → AreMasks allowed → Assignable allowed → is_assignable allowed ≡ true
is_assignable_true allowed masks h = (lists_some allowed masks).1 h

-- and no of one that has none
pub is_assignable_false : (allowed : List ℕ) → AreMasks allowed → (Assignable allowed → ⊥) → is_assignable allowed ≡ false
is_assignable_false allowed masks isnt = elim (cases_Bool (is_assignable allowed)) [
  | inl is ↦ absurd (isnt ((lists_some allowed masks).0 is))
  | inr no_fit ↦ no_fit
]

-- a list of which the test says yes has an assignment
pub assignable_of : (allowed : List ℕ) → AreMasks allowed → is_assignable allowed ≡ true → Assignable allowed
assignable_of allowed masks is = (lists_some allowed masks).0 is

-- a list of which the test says no has none
pub not_assignable_of : (allowed : List ℕ) → AreMasks allowed → is_assignable allowed ≡ false → Assignable allowed → ⊥
not_assignable_of allowed masks isnt h = let is = is_assignable_true allowed masks h in cc

-- what a matching's answer says of the test
pub is_ok-assignable : {T E : Type 0} (r : Result T E) (allowed : List ℕ) → AreMasks allowed → OnOk r (Assignable allowed) → OnErr r (Assignable allowed → ⊥) → is_ok r ≡ is_assignable allowed
is_ok-assignable (Ok x) allowed masks is isnt = sym (is_assignable_true allowed masks is)
is_ok-assignable (Err e) allowed masks is isnt = sym (is_assignable_false allowed masks isnt)

pub mask_small : (counters mask : ℕ) → counters ≤ 32 → mask < 2 ^ counters → mask < 2 ^ 32
mask_small counters mask few below = let most : 2 ^ counters ≤ 2 ^ 32 = pow_mono few in omega arith

pub one_mask : (mask : ℕ) → mask < 2 ^ 32 → AreMasks (mask ∷ [])
one_mask mask small zero below = small
one_mask mask small (suc i) below = absurd (omega arith)

pub masks_append : (allowed more : List ℕ) → AreMasks allowed → AreMasks more → AreMasks (allowed ++ more)
masks_append [] more h g i below = g i below
masks_append (m ∷ ms) more h g zero below = h 0 (omega arith)
masks_append (m ∷ ms) more h g (suc i) below = masks_append ms more (λ j b. h (suc j) (omega arith)) g i (omega arith)

pub masks_push : (allowed : List ℕ) (mask : ℕ) → AreMasks allowed → mask < 2 ^ 32 → AreMasks (allowed ++ mask ∷ [])
masks_push allowed mask h small = masks_append allowed (mask ∷ []) h (one_mask mask small)

-- one native with a counter has an assignment
pub assignable_one : (mask : ℕ) → 0 < mask → mask < 2 ^ 32 → Assignable (mask ∷ [])
assignable_one mask some small =
    let lowest = bit_at-trailing_zeros w32 mask some small in (
      trailing_zeros w32 mask ∷ [],
      record {
        one_each = refl;
        is_allowed = allowed lowest.1;
        distinct = λ i j a b same. let e : i ≡ 0 = omega arith in let f : j ≡ 0 = omega arith in omega arith;
      },
    ) where
      allowed : bit_at mask (trailing_zeros w32 mask) ≡ 1 → (i : ℕ) → i < 1 → bit_at (get_or (mask ∷ []) i 0) (get_or (trailing_zeros w32 mask ∷ []) i 0) ≡ 1
      allowed h zero below = h
      allowed h (suc i) below = absurd (omega arith)

pub is_assignable_one : (mask : ℕ) → 0 < mask → mask < 2 ^ 32 → is_assignable (mask ∷ []) ≡ true
is_assignable_one mask some small = is_assignable_true (mask ∷ []) (one_mask mask small) (assignable_one mask some small)
