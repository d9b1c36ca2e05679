-- Names, printable texts and numerals as text, and their values.
use Rattle.table_rows.proofs.Words.{◌≡◌, ◌+◌, ◌-◌, ◌*◌, ◌<◌, ◌≤◌, ◌^◌, ◌∷◌, ◌∙◌, ℕ, List, [], Some, None, Bool, true, false, length, get_or, take}
use Rattle.table_rows.proofs.Words.{refl, sym, ap, ap₂, arith, common_steps, leb-true, ltb-true, lt-ltb, le-ltb, ne_eqb, and_parts, IsUtf8-from_ascii}
use Rattle.table_rows.proofs.Words.{digits_value-lt, digits_value_more, digits_value-take-le, pow-le-pow_right, result_ok, list_all, IsAscii}
use Rattle.table_rows.proofs.Words.{digit_value, AllDigits, IsNumeral, ParsesUnsigned, digits_value, without_leading_plus, is_decimal, is_digit}
use Rattle.table_rows.proofs.Words.{is_hex_digit, is_name, is_name_byte, is_numeral, is_printable, is_printable_byte}
use Rattle.std.specs.Prelude.{◌==◌, zero, suc, nat_lt, if◌then◌else◌, IsUtf8, Result, Ok, Err}

-- ---- as text

-- bytes that pass a test that only ASCII passes are ASCII
ascii-all : (p : ℕ → Bool) (xs : List ℕ) → ((b : ℕ) → p b ≡ true → b < 128) → list_all p xs ≡ true → IsAscii xs
ascii-all p [] h e i = omega arith
ascii-all p (x ∷ xs) h e zero = h x (and_parts _ _ e).0
ascii-all p (x ∷ xs) h e (suc i) = ascii-all p xs h (and_parts _ _ e).1 i

pub name_byte-ascii : (b : ℕ) → is_name_byte b ≡ true → b < 128
name_byte-ascii b e = grind (arith, common_steps)

printable_byte-ascii : (b : ℕ) → is_printable_byte b ≡ true → b < 128
printable_byte-ascii b e = grind (arith, common_steps)

hex-ascii : (b : ℕ) → is_hex_digit b ≡ true → b < 128
hex-ascii b e = grind (arith, common_steps)

pub name-utf8 : (t : List ℕ) → is_name t ≡ true → IsUtf8 t
unfolding is_name
name-utf8 t e = IsUtf8-from_ascii t (ascii-all is_name_byte t name_byte-ascii (and_parts _ _ (and_parts _ _ e).1).1)

pub printable-utf8 : (t : List ℕ) → is_printable t ≡ true → IsUtf8 t
printable-utf8 t e = IsUtf8-from_ascii t (ascii-all is_printable_byte t printable_byte-ascii e)

pub hex-utf8 : (t : List ℕ) → list_all is_hex_digit t ≡ true → IsUtf8 t
hex-utf8 t e = IsUtf8-from_ascii t (ascii-all is_hex_digit t hex-ascii e)

-- ---- as digits

pub digits-sixteen : (t : List ℕ) → list_all is_hex_digit t ≡ true → AllDigits 16 t
digits-sixteen [] e = tt
digits-sixteen (b ∷ t) e = (ltb-true (digit_value b) 16 (and_parts _ _ e).0, digits-sixteen t (and_parts _ _ e).1)

-- a number without leading zeros has digits alone
pub decimal-numeral : (t : List ℕ) → is_decimal t ≡ true → is_numeral t ≡ true
unfolding is_decimal
decimal-numeral t e = (and_parts _ _ e).0

pub hex-numeral : (t : List ℕ) → list_all is_hex_digit t ≡ true → 0 < length t → IsNumeral 16 t
hex-numeral t e f = (f, digits-sixteen t e)

-- a `+` is not a digit
plain : (p : ℕ → Bool) (t : List ℕ) → p 43 ≡ false → list_all p t ≡ true → without_leading_plus t ≡ t
plain p [] f e = refl
plain p (b ∷ t) f e =
    let here : p b ≡ true = (and_parts _ _ e).0 in
    let plus : (b == 43) ≡ false = ne_eqb b 43 (λ (q : b ≡ 43). cc (here, f, ap p q)) in
    rw plus refl

pub hex-plain : (t : List ℕ) → list_all is_hex_digit t ≡ true → without_leading_plus t ≡ t
hex-plain t e = plain is_hex_digit t refl e

pub hex-small : (t : List ℕ) → list_all is_hex_digit t ≡ true → length t ≤ 16 → digits_value 16 t < 2 ^ 64
hex-small t e h =
    let lt = digits_value-lt 16 t (digits-sixteen t e) in
    let le : 16 ^ length t ≤ 16 ^ 16 = pow-le-pow_right {n = 16} (omega arith) h in
    omega (arith, lt, le)

digit_value-digit : (b : ℕ) → is_digit b ≡ true → (48 ≤ b) × (digit_value b ≡ b - 48)
digit_value-digit b e =
    let low = leb-true 48 b (and_parts _ _ e).0 in
    let high = leb-true b 57 (and_parts _ _ e).1 in
    let l : nat_lt b 48 ≡ false = le-ltb b 48 low in
    let h : nat_lt b 58 ≡ true = lt-ltb b 58 (omega arith) in
    (low, rw (l, h) refl)

digit_at : (t : List ℕ) (i : ℕ) → list_all is_digit t ≡ true → i < length t → is_digit (get_or t i 0) ≡ true
digit_at [] i e less = absurd (omega (arith, less))
digit_at (b ∷ t) zero e less = (and_parts _ _ e).0
digit_at (b ∷ t) (suc i) e less = digit_at t i (and_parts _ _ e).1 (omega (arith, less))

-- one digit more
pub next_digit : (t : List ℕ) (i value : ℕ) → is_numeral t ≡ true → i < length t → value ≡ digits_value 10 (take i t)
    → (48 ≤ get_or t i 0) × (value * 10 + (get_or t i 0 - 48) ≡ digits_value 10 (take (i + 1) t))
unfolding is_numeral
next_digit t i value e less h =
    let digit = digit_value-digit (get_or t i 0) (digit_at t i (and_parts _ _ e).0 less) in
    (digit.0, sym (digits_value_more 10 t i less ∙ ap₂ (λ n d. n * 10 + d) (sym h) digit.1))

-- the value so far is too large, and so is that of all digits
pub too_large : (t : List ℕ) (k : ℕ) → 2 ^ 64 ≤ digits_value 10 (take k t) → None ≡ (if nat_lt (digits_value 10 t) (2 ^ 64) then Some (digits_value 10 t) else None)
too_large t k h =
    let le = digits_value-take-le 10 t k (omega arith) in
    let large : nat_lt (digits_value 10 t) (2 ^ 64) ≡ false = le-ltb (digits_value 10 t) (2 ^ 64) (omega (arith, le, h)) in
    rw large refl

pub hex-parsed : {E : Type 0} (t : List ℕ) (r : Result ℕ E) → list_all is_hex_digit t ≡ true → 0 < length t → length t ≤ 16 → ParsesUnsigned 64 16 t r
    → result_ok r ≡ Some (digits_value 16 t)
hex-parsed t (Ok n) h f l p = let q = rw (hex-plain t h) at p in ap Some q.1
hex-parsed t (Err e) h f l p =
    let q = rw (hex-plain t h) at p in
    absurd (q (hex-numeral t h f, hex-small t h l))
