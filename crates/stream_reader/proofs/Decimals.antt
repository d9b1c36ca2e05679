-- The number of a field of digits.
use Rattle.stream_reader.proofs.Words.{◌≡◌, ◌∙◌, ◌<◌, ◌≤◌, ◌==◌, ◌&&◌, ◌||◌, ◌∷◌, ℕ, Bool, true, false, not, List, [], Option, Some, None, length}
use Rattle.stream_reader.proofs.Words.{get_or, refl, sym, arith, IfSome, nat_le, nat_lt, list_all, digits_value, lt-leb, le-leb, lt-ltb, decimal_in}
use Rattle.stream_reader.proofs.Words.{is_decimal, is_digit, is_empty, is_numeral, digits_on, first_field, has_form}
use Rattle.std.specs.Prelude.{if◌then◌else◌, cond, slice_index}
use Rattle.stream_reader.proofs.FieldSteps.{number_on-value}

form-of : (t : List ℕ) → (list_all is_digit (first_field t) ≡ true) → is_decimal (first_field t) ≡ has_form (length (first_field t)) (get_or t 0 0)
unfolding is_decimal is_numeral first_field
form-of [] h = refl
form-of (b ∷ t) h = go (b == 32) h
  where
    more : (x y : Bool) → x ≡ true → ((x && true) && y) ≡ (true && y)
    more true y e = refl
    more false y e = cc

    go : (x : Bool) → list_all is_digit (cond x [] (b ∷ first_field t)) ≡ true
        → ((list_all is_digit (cond x [] (b ∷ first_field t)) && not (is_empty (cond x [] (b ∷ first_field t)))) && ((length (cond x [] (b ∷ first_field t)) == 1) || not (slice_index (cond x [] (b ∷ first_field t)) 0 == 48)))
        ≡ (nat_lt 0 (length (cond x [] (b ∷ first_field t))) && ((length (cond x [] (b ∷ first_field t)) == 1) || not (b == 48)))
    go true h = refl
    go false h = rw (h, lt-ltb 0 (length (b ∷ first_field t)) (omega arith)) refl

-- what the number and the length of a field of digits say
pub decimal-digits : (low high n : ℕ) (t : List ℕ) → digits_on 0 t ≡ Some n
    → decimal_in low high (first_field t) ≡ (if has_form (length (first_field t)) (get_or t 0 0) && (nat_le low n && nat_le n high) then Some n else None)
unfolding decimal_in
decimal-digits low high n t e = go (list_all is_digit (first_field t)) refl (sym (number_on-value is_digit 10 0 t) ∙ e)
  where
    go : (x : Bool) → list_all is_digit (first_field t) ≡ x → (if x then Some (digits_value 10 (first_field t)) else None) ≡ Some n
        → (if is_decimal (first_field t) && (nat_le low (digits_value 10 (first_field t)) && nat_le (digits_value 10 (first_field t)) high) then Some (digits_value 10 (first_field t)) else None)
        ≡ (if has_form (length (first_field t)) (get_or t 0 0) && (nat_le low n && nat_le n high) then Some n else None)
    go true p q = let same : digits_value 10 (first_field t) ≡ n = cc in rw (form-of t p, same) refl
    go false p q = cc q

no-decimal : (low high : ℕ) (f : List ℕ) → list_all is_digit f ≡ false → decimal_in low high f ≡ None
unfolding decimal_in is_decimal is_numeral
no-decimal low high f h = rw h refl

-- no field of digits, or one that is too large
pub decimal-none : (low high : ℕ) (t : List ℕ) → IfSome (digits_on 0 t) (λ n. high < n) → decimal_in low high (first_field t) ≡ None
decimal-none low high t h = go (digits_on 0 t) refl h
  where
    both : (a b : Bool) (n : ℕ) → (if a && (b && false) then Some n else None) ≡ None
    both true true n = refl
    both true false n = refl
    both false b n = refl

    go : (o : Option ℕ) → digits_on 0 t ≡ o → IfSome o (λ n. high < n) → decimal_in low high (first_field t) ≡ None
    go (Some n) e large = rw (decimal-digits low high n t e, lt-leb n high large) (both (has_form (length (first_field t)) (get_or t 0 0)) (nat_le low n) n)
    go None e large = not_digits (list_all is_digit (first_field t)) refl (sym (number_on-value is_digit 10 0 t) ∙ e)
      where
        not_digits : (x : Bool) → list_all is_digit (first_field t) ≡ x → (if x then Some (digits_value 10 (first_field t)) else None) ≡ None → decimal_in low high (first_field t) ≡ None
        not_digits true p q = cc q
        not_digits false p q = no-decimal low high (first_field t) p

-- the four ways in which a field of digits ends
pub decimal-form : (low high n : ℕ) (t : List ℕ) → digits_on 0 t ≡ Some n → has_form (length (first_field t)) (get_or t 0 0) ≡ false → decimal_in low high (first_field t) ≡ None
decimal-form low high n t e h = rw (decimal-digits low high n t e, h) refl

pub decimal-within : (low high n : ℕ) (t : List ℕ) → digits_on 0 t ≡ Some n → has_form (length (first_field t)) (get_or t 0 0) ≡ true → low ≤ n → n ≤ high → decimal_in low high (first_field t) ≡ Some n
decimal-within low high n t e h l g = rw (decimal-digits low high n t e, h, le-leb low n l, le-leb n high g) refl

pub decimal-below : (low high n : ℕ) (t : List ℕ) → digits_on 0 t ≡ Some n → has_form (length (first_field t)) (get_or t 0 0) ≡ true → n < low → decimal_in low high (first_field t) ≡ None
decimal-below low high n t e h l = rw (decimal-digits low high n t e, h, lt-leb low n l) refl

pub decimal-above : (low high n : ℕ) (t : List ℕ) → digits_on 0 t ≡ Some n → high < n → decimal_in low high (first_field t) ≡ None
decimal-above low high n t e g = decimal-none low high t (rw e g)
