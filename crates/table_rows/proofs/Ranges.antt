-- The numbers that texts write are within their ranges.
use Rattle.table_rows.proofs.Words.{◌≡◌, ◌<◌, ◌≤◌, ◌^◌, ℕ, Some, None, length, arith, pow-le-pow_right, leb-true, and_parts, digits_value-lt, ◌&&◌}
use Rattle.table_rows.proofs.Words.{nat_le, list_all, digits_value, Text, decimal_in, hex_in, is_decimal, is_hex_digit}
use Rattle.table_rows.proofs.Numerals.{digits-sixteen}
use Rattle.table_rows.proofs.Texts.{given}

pub decimal_in-range : (low high : ℕ) (t : Text) (n : ℕ) → decimal_in low high t ≡ Some n → (low ≤ n) × (n ≤ high)
unfolding decimal_in
decimal_in-range low high t n e =
    given (λ k. (low ≤ k) × (k ≤ high)) (is_decimal t && (nat_le low (digits_value 10 t) && nat_le (digits_value 10 t) high)) (digits_value 10 t) None e
    (λ h. let r = and_parts _ _ (and_parts _ _ h).1 in (leb-true _ _ r.0, leb-true _ _ r.1)) (λ n. cc n)

pub hex_in-range : (few many : ℕ) (t : Text) (n : ℕ) → hex_in few many t ≡ Some n → n < 16 ^ many
unfolding hex_in
hex_in-range few many t n e =
    given (λ k. k < 16 ^ many) (list_all is_hex_digit t && (nat_le few (length t) && nat_le (length t) many)) (digits_value 16 t) None e
    (λ h.
    let d = and_parts _ _ h in
    let long = leb-true (length t) many (and_parts _ _ d.1).1 in
    let lt = digits_value-lt 16 t (digits-sixteen t d.0) in
    let le : 16 ^ length t ≤ 16 ^ many = pow-le-pow_right {n = 16} (omega arith) long in
    omega (arith, lt, le)) (λ n. cc n)
