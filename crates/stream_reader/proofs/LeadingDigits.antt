-- The digits that come first among sixteen bytes, and their number.
use Rattle.stream_reader.proofs.Words.{◌≡◌, ◌∙◌, ◌+◌, ◌-◌, ◌*◌, ◌/◌, ◌^◌, ◌<◌, ◌≤◌, ◌∷◌, ℕ, zero, suc, Bool, true, false, not, List, [], length, map}
use Rattle.stream_reader.proofs.Words.{take, drop, refl, sym, ap, arith, nat_le, cond, list_all, prefix_len, digit_value, digits_value}
use Rattle.stream_reader.proofs.Words.{digits_value_after, pow-suc, div-div-eq-div-mul, leb-false, ltb-true, Each1, chunk, length-chunk, length-map}
use Rattle.stream_reader.proofs.Words.{take-take, is_hex_digit, HasValue, HaveValues, IsHexadecimal, is_value, number_after, piece}
use Rattle.stream_reader.proofs.ByteTables.{at-place}
use Rattle.stream_reader.proofs.JoinedDigits.{low, small}
use Rattle.stream_reader.proofs.DigitRuns.{run_le}

-- the first of the lanes up to k
record Goes (x v k : ℕ) (vs : List ℕ) : Type 0 where
  test : is_hex_digit x ≡ true
  value : v ≡ digit_value x
  rest : k ≤ prefix_len is_value vs

goes : (x v k : ℕ) (vs : List ℕ) → HasValue x v → suc k ≤ prefix_len is_value (v ∷ vs) → Goes x v k vs
goes x v k vs f h = go (nat_le 16 v) refl (is_hex_digit x) refl h
  where
    go : (b : Bool) → nat_le 16 v ≡ b → (d : Bool) → is_hex_digit x ≡ d → suc k ≤ cond (not b) (1 + prefix_len is_value vs) 0 → Goes x v k vs
    go true e d p l = absurd (omega arith)
    go false e true p l = record { test = p; value = f.digit p; rest = omega arith }
    go false e false p l = absurd (omega (arith, f.other p, leb-false 16 v e))

heads-hex : (k : ℕ) (xs vs : List ℕ) → HaveValues xs vs → k ≤ prefix_len is_value vs → list_all is_hex_digit (take k xs) ≡ true
unfolding HaveValues
heads-hex zero xs vs f h = refl
heads-hex (suc k) [] [] f h = absurd (omega arith)
heads-hex (suc k) [] (v ∷ vs) f h = absurd f
heads-hex (suc k) (x ∷ xs) [] f h = absurd f
heads-hex (suc k) (x ∷ xs) (v ∷ vs) f h = let g = goes x v k vs f.0 h in rw (g.test, heads-hex k xs vs f.1 g.rest) refl

heads-value : (k n : ℕ) (xs vs : List ℕ) → HaveValues xs vs → k ≤ prefix_len is_value vs → number_after n (take k (map low vs)) ≡ digits_value_after 16 n (take k xs)
unfolding HaveValues number_after
heads-value zero n xs vs f h = refl
heads-value (suc k) n [] [] f h = absurd (omega arith)
heads-value (suc k) n [] (v ∷ vs) f h = absurd f
heads-value (suc k) n (x ∷ xs) [] f h = absurd f
heads-value (suc k) n (x ∷ xs) (v ∷ vs) f h =
    let g = goes x v k vs f.0 h in
    let same : low v ≡ digit_value x = omega (arith, g.value, ltb-true (digit_value x) 16 g.test) in
    ap (λ d. number_after (n * 16 + d) (take k (map low vs))) same ∙ heads-value k (n * 16 + digit_value x) xs vs f.1 g.rest

as-many : (xs vs : List ℕ) → HaveValues xs vs → length xs ≡ length vs
unfolding HaveValues
as-many [] [] f = refl
as-many [] (v ∷ vs) f = absurd f
as-many (x ∷ xs) [] f = absurd f
as-many (x ∷ xs) (v ∷ vs) f = ap suc (as-many xs vs f.1)

-- a division drops the digits after the first k
rest-goes : (n : ℕ) (ys : List ℕ) → Each1 (λ y. y < 16) ys → number_after n ys / 16 ^ length ys ≡ n
unfolding number_after
rest-goes n [] h = omega arith
rest-goes n (y ∷ ys) h =
    ap (λ p. number_after (n * 16 + y) ys / p) (pow-suc 16 (length ys))
    ∙ sym (div-div-eq-div-mul (number_after (n * 16 + y) ys) (16 ^ length ys) 16)
    ∙ ap (λ q. q / 16) (rest-goes (n * 16 + y) ys h.1)
    ∙ omega (arith, h.0)

first-stay : (k n : ℕ) (ys : List ℕ) → k ≤ length ys → Each1 (λ y. y < 16) ys → number_after n ys / 16 ^ (length ys - k) ≡ number_after n (take k ys)
unfolding number_after
first-stay zero n ys l h = ap (λ m. number_after n ys / 16 ^ m) (omega arith) ∙ rest-goes n ys h
first-stay (suc k) n [] l h = absurd (omega arith)
first-stay (suc k) n (y ∷ ys) l h = ap (λ m. number_after (n * 16 + y) ys / 16 ^ m) (omega arith) ∙ first-stay k (n * 16 + y) ys (omega arith) h.1

powers : (k : ℕ) → k < 17 → 2 ^ (64 - 4 * k) ≡ 16 ^ (16 - k)
powers k h = at-place (λ n. 2 ^ (64 - 4 * n)) (λ n. 16 ^ (16 - n)) 17 k refl h

pub digits-are : (t : List ℕ) (at k joined : ℕ) (vs : List ℕ) → at + 16 ≤ length t → HaveValues (chunk at 16 t) vs → k ≡ prefix_len is_value vs → joined ≡ number_after 0 (map low vs)
    → IsHexadecimal t at (record { value = joined / 2 ^ (64 - 4 * k); size = k })
digits-are t at k joined vs room have e f =
    let xs = chunk at 16 t in
    let ys = map low vs in
    let vs_long : length vs ≡ 16 = sym (as-many xs vs have) ∙ length-chunk at 16 t room in
    let ys_long : length ys ≡ 16 = length-map vs low ∙ vs_long in
    let most : k ≤ 16 = omega (arith, run_le vs vs_long) in
    let within : k ≤ prefix_len is_value vs = omega (arith, e) in
    let same : take k xs ≡ piece at k t = take-take k 16 (drop at t) most in
    record {
      few = most;
      each = ap (list_all is_hex_digit) (sym same) ∙ heads-hex k xs vs have within;
      value =
          ap (λ p. joined / p) (powers k (omega arith)) ∙ ap (λ j. j / 16 ^ (16 - k)) f ∙ ap (λ m. number_after 0 ys / 16 ^ (m - k)) (sym ys_long)
          ∙ first-stay k 0 ys (omega arith) (small vs) ∙ heads-value k 0 xs vs have within ∙ ap (digits_value 16) same;
    }
