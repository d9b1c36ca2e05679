-- Amounts of one to three digits.
use Rattle.stream_reader.proofs.Words.{◌≡◌, ◌∙◌, ◌+◌, ◌-◌, ◌*◌, ◌≤◌, ℕ, Bool, true, false, List, Option, Some, None, IfSome, length, get_or, refl}
use Rattle.stream_reader.proofs.Words.{sym, ap, arith, list_all, digit_value, digits_value, and_parts, leb-true, decimal_in, is_digit, Field}
use Rattle.stream_reader.proofs.Words.{decimal_or_256, piece, has_form, IsAmount, IsAmountOf}
use Rattle.std.specs.Prelude.{if◌then◌else◌, nat_le}
use Rattle.stream_reader.proofs.DecimalBytes.{IsDigit, decimal-of, digit, digits-inner, not-zero}
use Rattle.stream_reader.proofs.FirstItems.{taken}

-- ---- from the values of bytes

record IsDecimal (b : ℕ) : Type 0 where
  low : 48 ≤ b
  high : b ≤ 57
  value : decimal_or_256 b ≡ b - 48
  digit : IsDigit b

is-decimal : (b : ℕ) → decimal_or_256 b ≤ 255 → IsDecimal b
is-decimal b h = go (is_digit b) refl h
  where
    go : (x : Bool) → is_digit b ≡ x → (if x then digit_value b else 256) ≤ 255 → IsDecimal b
    go true p q =
        let parts = and_parts (nat_le 48 b) (nat_le b 57) p in
        let low : 48 ≤ b = leb-true 48 b parts.0 in
        let high : b ≤ 57 = leb-true b 57 parts.1 in
        record { low = low; high = high; value = rw p ((digit b low high).value); digit = digit b low high }
    go false p q = absurd (omega arith)

-- each of three digits is one, if the number of all is small
small : (x y z : ℕ) → x * 100 + y * 10 + z ≤ 255 → (x ≤ 255) × (y ≤ 255) × (z ≤ 255)
small x y z h = (omega arith, omega arith, omega arith)

-- ---- the amount

-- n digits after the head, of which the first is no zero
amount-is : (t : List ℕ) (n value least : ℕ) (amount : Field) → 1 ≤ n → n ≤ 3 → 1 ≤ least → get_or t (9 + n) 0 ≡ 32 → list_all is_digit (piece 9 n t) ≡ true
    → has_form (length (piece 9 n t)) (get_or (piece 9 n t) 0 0) ≡ true → value ≡ digits_value 10 (piece 9 n t) → IsAmountOf value n least amount → IsAmount t amount
amount-is t n value least amount some few above space each form is f = record {
  some = omega (arith, f.size);
  few = omega (arith, f.size);
  most = omega (arith, f.value, f.within);
  value = ap (λ k. decimal_in 1 255 (piece 9 k t)) f.size ∙ decimal-of 1 255 (piece 9 n t) each form (omega (arith, is, f.above)) (omega (arith, is, f.within)) ∙ ap Some (sym (f.value ∙ is));
  inner = rw f.size (record { each = digits-inner (piece 9 n t) each });
  space = ap (λ k. get_or t (9 + k) 0) f.size ∙ space;
}

pub amount-1 : (t : List ℕ) (value : ℕ) (amount : Field) → 30 ≤ length t → get_or t 10 0 ≡ 32 → value ≡ decimal_or_256 (get_or t 9 0) → IsAmountOf value 1 1 amount → IsAmount t amount
amount-1 t value amount long space e f =
    let x = is-decimal (get_or t 9 0) (omega (arith, e, f.within)) in
    let bytes = taken 0 1 9 t (omega arith) in
    amount-is t 1 value 1 amount (omega arith) (omega arith) (omega arith) space (rw (bytes, x.digit.test) refl) (rw bytes refl) (rw bytes (omega (arith, e, x.value, x.digit.value))) f

pub amount-2 : (t : List ℕ) (value : ℕ) (amount : Field) → 30 ≤ length t → get_or t 11 0 ≡ 32 → value ≡ decimal_or_256 (get_or t 9 0) * 10 + decimal_or_256 (get_or t 10 0) → IsAmountOf value 2 10 amount
    → IsAmount t amount
amount-2 t value amount long space e f =
    let a = get_or t 9 0 in
    let b = get_or t 10 0 in
    let s = small 0 (decimal_or_256 a) (decimal_or_256 b) (omega (arith, e, f.within)) in
    let x = is-decimal a s.1 in
    let y = is-decimal b s.2 in
    let is : value ≡ (a - 48) * 10 + (b - 48) = e ∙ rw (x.value, y.value) refl in
    let bytes = taken 0 2 9 t (omega arith) in
    amount-is t 2 value 10 amount (omega arith) (omega arith) (omega arith) space (rw (bytes, x.digit.test, y.digit.test) refl) (rw (bytes, not-zero a (omega (arith, is, f.above, y.high))) refl)
    (rw bytes (omega (arith, is, x.digit.value, y.digit.value))) f

pub amount-3 : (t : List ℕ) (value : ℕ) (amount : Field) → 30 ≤ length t → get_or t 12 0 ≡ 32
    → value ≡ decimal_or_256 (get_or t 9 0) * 100 + decimal_or_256 (get_or t 10 0) * 10 + decimal_or_256 (get_or t 11 0) → IsAmountOf value 3 100 amount → IsAmount t amount
amount-3 t value amount long space e f =
    let a = get_or t 9 0 in
    let b = get_or t 10 0 in
    let d = get_or t 11 0 in
    let s = small (decimal_or_256 a) (decimal_or_256 b) (decimal_or_256 d) (omega (arith, e, f.within)) in
    let x = is-decimal a s.0 in
    let y = is-decimal b s.1 in
    let z = is-decimal d s.2 in
    let is : value ≡ (a - 48) * 100 + (b - 48) * 10 + (d - 48) = e ∙ rw (x.value, y.value, z.value) refl in
    let bytes = taken 0 3 9 t (omega arith) in
    amount-is t 3 value 100 amount (omega arith) (omega arith) (omega arith) space (rw (bytes, x.digit.test, y.digit.test, z.digit.test) refl) (rw (bytes, not-zero a (omega (arith, is, f.above, y.high, z.high))) refl)
    (rw bytes (omega (arith, is, x.digit.value, y.digit.value, z.digit.value))) f

pub some-amount : (P Q : Field → Type 0) → ((amount : Field) → P amount → Q amount) → (o : Option Field) → IfSome o P → IfSome o Q
some-amount P Q f None h = tt
some-amount P Q f (Some amount) h = f amount h
