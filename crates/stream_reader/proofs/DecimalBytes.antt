-- Bytes that are decimal digits, and those that a text begins with.
use Rattle.stream_reader.proofs.Words.{◌≡◌, ◌-◌, ◌≤◌, ◌==◌, ◌||◌, ◌∷◌, ℕ, true, false, not, List, [], Some, length, get_or, refl, arith, nat_lt}
use Rattle.stream_reader.proofs.Words.{list_all, digit_value, digits_value, and_parts, le-leb, nat_tests, decimal_in, is_decimal, is_digit}
use Rattle.stream_reader.proofs.Words.{is_numeral, has_form, is_inner}

pub record IsDigit (b : ℕ) : Type 0 where
  pub test : is_digit b ≡ true
  pub value : digit_value b ≡ b - 48
  pub inner : is_inner b ≡ true

pub digit : (b : ℕ) → 48 ≤ b → b ≤ 57 → IsDigit b
digit b low high = record {
  test = grind (arith, nat_tests);
  value = grind (arith, nat_tests);
  inner = grind (arith, nat_tests);
}

pub not-zero : (b : ℕ) → 49 ≤ b → (b == 48) ≡ false
not-zero b h = grind (arith, nat_tests)

pub digit-inner : (b : ℕ) → is_digit b ≡ true → is_inner b ≡ true
digit-inner b h = grind (arith, nat_tests)

pub digits-inner : (f : List ℕ) → list_all is_digit f ≡ true → list_all is_inner f ≡ true
digits-inner [] h = refl
digits-inner (b ∷ f) h = let p = and_parts (is_digit b) (list_all is_digit f) h in rw (digit-inner b p.0, digits-inner f p.1) refl

-- the number of a field of digits
pub decimal-of : (low high : ℕ) (f : List ℕ) → list_all is_digit f ≡ true → has_form (length f) (get_or f 0 0) ≡ true → low ≤ digits_value 10 f → digits_value 10 f ≤ high → decimal_in low high f ≡ Some (digits_value 10 f)
unfolding decimal_in is_decimal is_numeral
decimal-of low high [] each form least most = cc form
decimal-of low high (b ∷ f) each form least most =
    let p = and_parts (nat_lt 0 (length (b ∷ f))) ((length (b ∷ f) == 1) || not (b == 48)) form in
    let v = digits_value 10 (b ∷ f) in
    rw (each, p.1, le-leb low v least, le-leb v high most) refl
