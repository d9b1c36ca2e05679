-- The places of the bits that are set.
use Rattle.std.proofs.Common.{◌≡◌, ℕ, zero, suc, ◌+◌, ◌-◌, ◌*◌, ◌%◌, ◌^◌, ◌<◌, ◌≤◌, Bool, true, false, List, [], ◌∷◌, ◌++◌, length, bit_and, inl, inr, refl, ap, ap₂, sym, ◌∙◌, arith}
use Rattle.std.specs.Prelude.{All, ◌==◌}
use Rattle.std.specs.Int.{bit_at, bit_not, trailing_zeros, w32}
use Rattle.std.proofs.lemmas.Bool.{cases_eq, cases_lt, eq-eqb, ne_eqb}
use Rattle.std.proofs.lemmas.Nat.Bits.{bit_at-lt, bit_at_above, bit_at-trailing_zeros, bit_at_clear_same, bit_at_clear_other}
use Rattle.overflow_dispatch.specs.Passing.{places_from, with_place}

length-with_place : (b : Bool) (i m : ℕ) (places : List ℕ) → length places ≤ m → length (with_place b i places) ≤ suc m
length-with_place true i m places h = omega arith
length-with_place false i m places h = omega arith

pub length-places : (bits i n : ℕ) → length (places_from bits i n) ≤ n
length-places bits i zero = omega arith
length-places bits i (suc n) = length-with_place (bit_at bits i == 1) i n (places_from bits (i + 1) n) (length-places bits (i + 1) n)

pub set_place : (bits i : ℕ) (places : List ℕ) → bit_at bits i ≡ 1 → with_place (bit_at bits i == 1) i places ≡ i ∷ places
set_place bits i places is = ap (λ b. with_place b i places) (eq-eqb (bit_at bits i) 1 is)

pub clear_place : (bits i : ℕ) (places : List ℕ) → (bit_at bits i ≡ 1 → ⊥) → with_place (bit_at bits i == 1) i places ≡ places
clear_place bits i places isnt = ap (λ b. with_place b i places) (ne_eqb (bit_at bits i) 1 isnt)

pub no_places : (bits i n : ℕ) → ((k : ℕ) → i ≤ k → bit_at bits k ≡ 0) → places_from bits i n ≡ []
no_places bits i zero none = refl
no_places bits i (suc n) none = clear_place bits i (places_from bits (i + 1) n) (λ is. let e = none i (omega arith) in absurd (omega arith)) ∙ no_places bits (i + 1) n (λ k h. none k (omega arith))

-- one bit more, above all others
pub place_more : (bits new index i n : ℕ) → bit_at new index ≡ 1 → ((k : ℕ) → (k ≡ index → ⊥) → bit_at new k ≡ bit_at bits k) → ((k : ℕ) → index ≤ k → bit_at bits k ≡ 0) → i ≤ index → index < i + n
    → places_from new i n ≡ places_from bits i n ++ index ∷ []
place_more bits new index i zero here there above low high = absurd (omega arith)
place_more bits new index i (suc n) here there above low high = elim (cases_eq i index) [
  | inl same ↦
      let none : places_from new (i + 1) n ≡ [] = no_places new (i + 1) n (λ k h. there k (λ e. absurd (omega arith)) ∙ above k (omega arith)) in
      let old : places_from bits i (suc n) ≡ [] = no_places bits i (suc n) (λ k h. above k (omega arith)) in
      set_place new i (places_from new (i + 1) n) (rw same here) ∙ ap (λ places. i ∷ places) none ∙ sym (ap (λ places. places ++ index ∷ []) old ∙ ap (λ k. k ∷ []) (sym same))
  | inr apart ↦
      ap₂ (λ b places. with_place (b == 1) i places) (there i apart) (place_more bits new index (i + 1) n here there above (omega arith) (omega arith))
      ∙ joined (bit_at bits i == 1) i (places_from bits (i + 1) n) (index ∷ [])
] where
  joined : (b : Bool) (j : ℕ) (xs ys : List ℕ) → with_place b j (xs ++ ys) ≡ with_place b j xs ++ ys
  joined true j xs ys = refl
  joined false j xs ys = refl

head_of : (P : ℕ → Type 0) (b : Bool) (i : ℕ) (places : List ℕ) → b ≡ true → All P (with_place b i places) → P i
head_of P true i places e h = h 0 0 (omega arith)
head_of P false i places e h = absurd cc

tail_of : (P : ℕ → Type 0) (b : Bool) (i : ℕ) (places : List ℕ) → All P (with_place b i places) → All P places
tail_of P true i places h = λ k d lt. h (suc k) d (omega arith)
tail_of P false i places h = h

-- what holds of all places holds of each bit that is set
pub all_places : (P : ℕ → Type 0) (bits i n k : ℕ) → All P (places_from bits i n) → bit_at bits k ≡ 1 → i ≤ k → k < i + n → P k
all_places P bits i zero k h is low high = absurd (omega arith)
all_places P bits i (suc n) k h is low high = elim (cases_eq k i) [
  | inl same ↦ rw same (head_of P (bit_at bits i == 1) i (places_from bits (i + 1) n) (eq-eqb (bit_at bits i) 1 (rw (← same) is)) h)
  | inr apart ↦ all_places P bits (i + 1) n k (tail_of P (bit_at bits i == 1) i (places_from bits (i + 1) n) h) is (omega arith) (omega arith)
]

-- no bit is set from an index on that is above all places
pub none_above : (bits index : ℕ) → bits < 2 ^ 32 → All (λ k. k < index) (places_from bits 0 32) → (k : ℕ) → index ≤ k → bit_at bits k ≡ 0
none_above bits index small h k above = elim (cases_lt k 32) [
  | inl below ↦ elim (cases_eq (bit_at bits k) 1) [
    | inl is ↦ let lt = all_places (λ j. j < index) bits 0 32 k h is (omega arith) (omega arith) in absurd (omega arith)
    | inr isnt ↦ let two = bit_at-lt bits k in omega arith
  ]
  | inr past ↦ bit_at_above bits 32 k small past
]

-- the places of the same bits
pub same_places : (bits new i n : ℕ) → ((k : ℕ) → i ≤ k → k < i + n → bit_at new k ≡ bit_at bits k) → places_from new i n ≡ places_from bits i n
same_places bits new i zero same = refl
same_places bits new i (suc n) same = ap₂ (λ b places. with_place (b == 1) i places) (same i (omega arith) (omega arith)) (same_places bits new (i + 1) n (λ k low high. same k (omega arith) (omega arith)))

-- the lowest place is taken out
pub lowest_out : (bits new index i n : ℕ) → bit_at bits index ≡ 1 → ((k : ℕ) → k < index → bit_at bits k ≡ 0) → bit_at new index ≡ 0
    → ((k : ℕ) → k < i + n → (k ≡ index → ⊥) → bit_at new k ≡ bit_at bits k) → i ≤ index → index < i + n → places_from bits i n ≡ index ∷ places_from new i n
lowest_out bits new index i zero is below out same low high = absurd (omega arith)
lowest_out bits new index i (suc n) is below out same low high = elim (cases_eq i index) [
  | inl here ↦
      set_place bits i (places_from bits (i + 1) n) (rw here is)
      ∙ ap₂ (λ k places. k ∷ places) here (sym (clear_place new i (places_from new (i + 1) n) (λ e. let none = ap (λ k. bit_at new k) here in absurd (omega arith))
      ∙ same_places bits new (i + 1) n (λ k past inside. same k (omega arith) (λ e. absurd (omega arith)))))
  | inr apart ↦
      let none = below i (omega arith) in
      clear_place bits i (places_from bits (i + 1) n) (λ e. absurd (omega arith))
      ∙ lowest_out bits new index (i + 1) n is below out (λ k inside apart. same k (omega arith) apart) (omega arith) (omega arith)
      ∙ ap (λ places. index ∷ places) (sym (clear_place new i (places_from new (i + 1) n) (λ e. let kept = same i (omega arith) apart in absurd (omega arith))))
]

-- the lowest bit is cleared
pub first_out : (bits : ℕ) → 0 < bits → bits < 2 ^ 32
    → places_from bits 0 32 ≡ trailing_zeros w32 bits ∷ places_from (bit_and bits (bit_not w32 (1 * 2 ^ trailing_zeros w32 bits % 2 ^ 32))) 0 32
first_out bits some small =
    let lowest = bit_at-trailing_zeros w32 bits some small in
    let index = trailing_zeros w32 bits in
    lowest_out bits (bit_and bits (bit_not w32 (1 * 2 ^ index % 2 ^ 32))) index 0 32 lowest.1 lowest.2 (bit_at_clear_same w32 bits index lowest.0)
    (λ k inside apart. bit_at_clear_other w32 bits index lowest.0 k (omega arith) apart) (omega arith) (omega (arith, lowest.0))

-- and one place fewer is left
pub count_out : (bits len : ℕ) → 0 < bits → bits < 2 ^ 32 → len ≡ length (places_from bits 0 32)
    → (1 ≤ len) × (len - 1 ≡ length (places_from (bit_and bits (bit_not w32 (1 * 2 ^ trailing_zeros w32 bits % 2 ^ 32))) 0 32))
count_out bits len some small many = let more = many ∙ ap length (first_out bits some small) in (omega (arith, more), omega (arith, more))
