-- The number of a field of digits, byte by byte.
use Rattle.stream_reader.proofs.Words.{◌≡◌, ◌+◌, ◌*◌, ◌<◌, ◌≤◌, ◌≢◌, ◌==◌, ◌∷◌, ℕ, Bool, true, false, List, [], Option, Some, None, length, drop}
use Rattle.stream_reader.proofs.Words.{get_or, refl, arith, IfSome, if◌then◌else◌, cond, list_all, digit_value, digits_value_after, drop_all, ne_eqb}
use Rattle.stream_reader.proofs.Words.{is_digit, digits_on, first_field, number_on}
use Rattle.stream_reader.proofs.FirstItems.{cut-at}

-- the field has ended here
pub record Ends (is_one : ℕ → Bool) (base : ℕ) (t : List ℕ) (i v : ℕ) : Type 0 where
  pub value : number_on is_one base v (drop i t) ≡ Some v
  pub long : length (first_field (drop i t)) ≡ 0

-- a byte is in the field
pub record Goes (is_one : ℕ → Bool) (base : ℕ) (t : List ℕ) (i v : ℕ) : Type 0 where
  pub value : is_one (get_or t i 0) ≡ true → number_on is_one base v (drop i t) ≡ number_on is_one base (v * base + digit_value (get_or t i 0)) (drop (i + 1) t)
  pub long : length (first_field (drop i t)) ≡ length (first_field (drop (i + 1) t)) + 1

module _ (is_one : ℕ → Bool) (base : ℕ) where
  pub number_on-value : (n : ℕ) (t : List ℕ) → number_on is_one base n t ≡ (if list_all is_one (first_field t) then Some (digits_value_after base n (first_field t)) else None)
  unfolding number_on first_field
  number_on-value n [] = refl
  number_on-value n (b ∷ t) = go (b == 32) (is_one b) refl (number_on-value (n * base + digit_value b) t)
    where
      go : (x y : Bool) → is_one b ≡ y → number_on is_one base (n * base + digit_value b) t ≡ (if list_all is_one (first_field t) then Some (digits_value_after base (n * base + digit_value b) (first_field t)) else None)
          → (if x then Some n else if y then number_on is_one base (n * base + digit_value b) t else None)
          ≡ (if list_all is_one (cond x [] (b ∷ first_field t)) then Some (digits_value_after base n (cond x [] (b ∷ first_field t))) else None)
      go true y e h = refl
      go false true e h = rw e h
      go false false e h = rw e refl

  pub at-space : (t : List ℕ) (i v : ℕ) → i < length t → get_or t i 0 ≡ 32 → Ends is_one base t i v
  unfolding number_on first_field
  at-space t i v h e = record { value = rw (cut-at 0 t i (omega arith), e) refl; long = rw (cut-at 0 t i (omega arith), e) refl }

  pub at-end : (t : List ℕ) (i v : ℕ) → length t ≤ i → Ends is_one base t i v
  unfolding number_on first_field
  at-end t i v h = let none = drop_all i t h in record { value = rw none refl; long = rw none refl }

  pub at-other : (t : List ℕ) (i v : ℕ) → i < length t → get_or t i 0 ≢ 32 → is_one (get_or t i 0) ≡ false → number_on is_one base v (drop i t) ≡ None
  unfolding number_on
  at-other t i v h e o = rw (cut-at 0 t i (omega arith), ne_eqb (get_or t i 0) 32 e, o) refl

  pub at-digit : (t : List ℕ) (i v : ℕ) → i < length t → get_or t i 0 ≢ 32 → Goes is_one base t i v
  unfolding number_on first_field
  at-digit t i v h other =
      record {
        value = λ d. rw (cut-at 0 t i (omega arith), ne_eqb (get_or t i 0) 32 other, d) refl;
        long = rw (cut-at 0 t i (omega arith), ne_eqb (get_or t i 0) 32 other) (omega arith);
      }

-- the number grows with each digit
digits_on-grows : (v : ℕ) (t : List ℕ) → IfSome (digits_on v t) (λ n. v ≤ n)
unfolding number_on
digits_on-grows v [] = omega arith
digits_on-grows v (b ∷ t) = go (b == 32) (is_digit b) (digits_on-grows (v * 10 + digit_value b) t)
  where
    larger : (d : ℕ) (o : Option ℕ) → IfSome o (λ n. v * 10 + d ≤ n) → IfSome o (λ n. v ≤ n)
    larger d None h = tt
    larger d (Some n) h = omega (arith, h)

    go : (x y : Bool) → IfSome (digits_on (v * 10 + digit_value b) t) (λ n. v * 10 + digit_value b ≤ n) → IfSome (if x then Some v else if y then digits_on (v * 10 + digit_value b) t else None) (λ n. v ≤ n)
    go true y h = omega arith
    go false true h = larger (digit_value b) (digits_on (v * 10 + digit_value b) t) h
    go false false h = tt

pub too-large : (g v : ℕ) (t : List ℕ) → g < v → IfSome (digits_on v t) (λ n. g < n)
too-large g v t h = go (digits_on v t) (digits_on-grows v t)
  where
    go : (o : Option ℕ) → IfSome o (λ n. v ≤ n) → IfSome o (λ n. g < n)
    go None k = tt
    go (Some n) k = omega (arith, k)
