-- Where natives are looked up by their keys.
use Rattle.thread_slots.proofs.Words.{◌≡◌, ℕ, zero, suc, ◌+◌, ◌≤◌, inl, inr, Bool, false, List, [], ◌∷◌, length, get_or, set, drop, refl, ap, sym}
use Rattle.thread_slots.proofs.Words.{◌∙◌, arith, Some, slice_get, position_or_len, slice_get_within, get_or-set_same, Native, same_native, ◌<◌, true}
use Rattle.thread_slots.proofs.Words.{cases_eq, cases_lt, get_or-set_other, length-set, native_is, AreFirst, key_of}
use Rattle.thread_slots.proofs.Lists.{same_some}

-- so it is with the natives before a place
pub record FirstTo (first : List ℕ) (natives : List Native) (done : ℕ) : Type 0 where
  pub keys : length first ≡ 128
  pub each : (j : ℕ) (n : Native) → slice_get natives j ≡ Some n → j < done → get_or first (key_of n) 0 ≤ j

-- one native more, whose key has no later place now than before
pub first_more : (first : List ℕ) (natives : List Native) (i : ℕ) (m : Native) (v : ℕ) → slice_get natives i ≡ Some m → key_of m < 128 → v ≤ i → v ≤ get_or first (key_of m) 0
    → FirstTo first natives i → FirstTo (set first (key_of m) v) natives (i + 1)
first_more first natives i m v at below here before h = record {
  keys = length-set first (key_of m) v ∙ h.keys;
  each = λ j n e lt. elim (cases_eq (key_of n) (key_of m)) [
    | inl same ↦
        let put = ap (λ (k : ℕ). get_or (set first (key_of m) v) k 0) same ∙ get_or-set_same first (key_of m) v 0 (omega (arith, h.keys)) in
        let was = ap (λ (k : ℕ). get_or first k 0) same in
        elim (cases_lt j i) [
          | inl earlier ↦ omega (arith, h.each j n e earlier)
          | inr later ↦ omega arith
        ]
    | inr other ↦ elim (cases_lt j i) [
      | inl earlier ↦ rw (get_or-set_other first (key_of m) (key_of n) v 0 other) (h.each j n e earlier)
      | inr later ↦
          let last : j ≡ i = omega arith in
          absurd (other (ap key_of (same_some n m (sym e ∙ ap (slice_get natives) last ∙ at))))
    ]
  ];
}

pub first_all : (first : List ℕ) (natives : List Native) (done : ℕ) → length natives ≤ done → FirstTo first natives done → AreFirst first natives
first_all first natives done all h = record { keys = h.keys; each = λ j n e. h.each j n e (let below = slice_get_within natives j n e in omega arith) }

-- if no item before a place passes a test
none_before : {X : Type 0} (p : X → Bool) (xs : List X) (s : ℕ) → s ≤ length xs → ((j : ℕ) (x : X) → slice_get xs j ≡ Some x → j < s → p x ≡ false)
    → s + position_or_len p (drop s xs) ≡ position_or_len p xs
none_before p xs zero le h = omega arith
none_before p [] (suc s) le h = absurd (omega arith)
none_before p (x ∷ xs) (suc s) le h =
    let rest = none_before p xs s (omega arith) (λ j y e lt. h (suc j) y e (omega arith)) in
    rw (h 0 x refl (omega arith)) (omega (arith, rest))

-- a native is not before the place of its key
pub found_from : (first : List ℕ) (natives : List Native) (n : Native) (s : ℕ) → AreFirst first natives → s ≤ length natives → s ≤ get_or first (key_of n) 0
    → s + position_or_len (same_native n) (drop s natives) ≡ position_or_len (same_native n) natives
found_from first natives n s h le low = none_before (same_native n) natives s le (λ j m e lt. other j m e lt (same_native n m) refl) where
  other : (j : ℕ) (m : Native) → slice_get natives j ≡ Some m → j < s → (b : Bool) → same_native n m ≡ b → same_native n m ≡ false
  other j m e lt true q =
      let same = ap (λ (x : Native). get_or first (key_of x) 0) (native_is n m q) in
      absurd (omega (arith, h.each j m e))
  other j m e lt false q = q
