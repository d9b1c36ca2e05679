-- The number of a field of hexadecimal digits, byte by byte.
use Rattle.stream_reader.proofs.Words.{◌≡◌, ◌∙◌, ◌+◌, ◌*◌, ◌^◌, ◌<◌, ◌≤◌, ◌≢◌, ◌&&◌, ℕ, Bool, true, false, List, Option, Some, None, length, drop}
use Rattle.stream_reader.proofs.Words.{get_or, refl, sym, subst, arith, nat_le, add-one, min, ◌⊎◌, inl, inr, if◌then◌else◌, list_all, digit_value}
use Rattle.stream_reader.proofs.Words.{digits_value, pow-suc, pow-le-pow_right, cases_eq, cases_lt, lt-leb, le-leb, ltb-true, hex_in, is_hex_digit}
use Rattle.stream_reader.proofs.Words.{first_field, hex_on}
use Rattle.stream_reader.proofs.FieldSteps.{Goes, at-digit, at-end, at-other, at-space, number_on-value}

pub hex-none : (few many : ℕ) (t : List ℕ) → hex_on 0 t ≡ None → hex_in few many (first_field t) ≡ None
unfolding hex_in
hex-none few many t h = go (list_all is_hex_digit (first_field t)) refl (sym (number_on-value is_hex_digit 16 0 t) ∙ h)
  where
    go : (x : Bool) → list_all is_hex_digit (first_field t) ≡ x → (if x then Some (digits_value 16 (first_field t)) else None) ≡ None
        → (if list_all is_hex_digit (first_field t) && (nat_le few (length (first_field t)) && nat_le (length (first_field t)) many) then Some (digits_value 16 (first_field t)) else None) ≡ None
    go true p q = cc q
    go false p q = rw p refl

-- a test that fails
no-value : (a b : Bool) (v : Option ℕ) → (if a && (b && false) then v else None) ≡ None
no-value true true v = refl
no-value true false v = refl
no-value false b v = refl

none-value : (a b : Bool) (v : Option ℕ) → (if a && (false && b) then v else None) ≡ None
none-value true b v = refl
none-value false b v = refl

pub hex-long : (few many : ℕ) (f : List ℕ) → many < length f → hex_in few many f ≡ None
unfolding hex_in
hex-long few many f h = rw (lt-leb (length f) many h) (no-value (list_all is_hex_digit f) (nat_le few (length f)) (Some (digits_value 16 f)))

pub hex-short : (few many : ℕ) (f : List ℕ) → length f < few → hex_in few many f ≡ None
unfolding hex_in
hex-short few many f h = rw (lt-leb few (length f) h) (none-value (list_all is_hex_digit f) (nat_le (length f) many) (Some (digits_value 16 f)))

pub hex-within : (few many n : ℕ) (t : List ℕ) → hex_on 0 t ≡ Some n → few ≤ length (first_field t) → length (first_field t) ≤ many → hex_in few many (first_field t) ≡ Some n
unfolding hex_in
hex-within few many n t h low high = go (list_all is_hex_digit (first_field t)) refl (sym (number_on-value is_hex_digit 16 0 t) ∙ h)
  where
    go : (x : Bool) → list_all is_hex_digit (first_field t) ≡ x → (if x then Some (digits_value 16 (first_field t)) else None) ≡ Some n
        → (if list_all is_hex_digit (first_field t) && (nat_le few (length (first_field t)) && nat_le (length (first_field t)) many) then Some (digits_value 16 (first_field t)) else None) ≡ Some n
    go true p q = rw (p, le-leb few (length (first_field t)) low, le-leb (length (first_field t)) many high) q
    go false p q = cc q

-- ---- byte by byte

-- the result of `hex_digit`
pub record IsDigit (b d : ℕ) : Type 0 where
  pub test : is_hex_digit b ≡ true
  pub value : d ≡ digit_value b
  pub small : d < 16

pub digit-some : (b d : ℕ) → Some d ≡ (if is_hex_digit b then Some (digit_value b) else None) → IsDigit b d
digit-some b d e = go (is_hex_digit b) refl e
  where
    go : (x : Bool) → is_hex_digit b ≡ x → Some d ≡ (if x then Some (digit_value b) else None) → IsDigit b d
    go true p q = let same : d ≡ digit_value b = cc q in record { test = p; value = same; small = rw same (ltb-true (digit_value b) 16 p) }
    go false p q = cc q

pub digit-none : (b : ℕ) → None ≡ (if is_hex_digit b then Some (digit_value b) else None) → is_hex_digit b ≡ false
digit-none b e = go (is_hex_digit b) refl e
  where
    go : (x : Bool) → is_hex_digit b ≡ x → None ≡ (if x then Some (digit_value b) else None) → is_hex_digit b ≡ false
    go true p q = cc q
    go false p q = p

pub digit-no-space : (b : ℕ) → is_hex_digit b ≡ true → b ≢ 32
digit-no-space b h e = cc (subst (λ x. is_hex_digit x ≡ true) e h)

-- Digits were read up to here: there are no more, or they are as many as are looked at.
abbrev pub Stops : List ℕ → ℕ → ℕ → Type 0
Stops t many i = (is_hex_digit (get_or t i 0) ≡ false) ⊎ (min (length t) many ≤ i)

-- if neither a space nor the end follows
pub hex-stops : (few many v i : ℕ) (t : List ℕ) → hex_on 0 t ≡ hex_on v (drop i t) → length (first_field t) ≡ i + length (first_field (drop i t)) → Stops t many i
    → i < length t → get_or t i 0 ≢ 32 → hex_in few many (first_field t) ≡ None
hex-stops few many v i t rest long stops h other = go (is_hex_digit (get_or t i 0)) refl
  where
    g : Goes is_hex_digit 16 t i v
    g = at-digit is_hex_digit 16 t i v h other

    go : (x : Bool) → is_hex_digit (get_or t i 0) ≡ x → hex_in few many (first_field t) ≡ None
    go false p = hex-none few many t (rest ∙ at-other is_hex_digit 16 t i v h other p)
    go true p = elim stops [
      | inl other_byte ↦ cc (sym p ∙ other_byte)
      | inr le ↦ hex-long few many (first_field t) (omega (arith, g.long))
    ]

-- too few digits
pub hex-few : (few many v i : ℕ) (t : List ℕ) → hex_on 0 t ≡ hex_on v (drop i t) → length (first_field t) ≡ i + length (first_field (drop i t)) → Stops t many i → i < few
    → hex_in few many (first_field t) ≡ None
hex-few few many v i t rest long stops less = elim (cases_lt i (length t)) [
  | inr end ↦ (let e = at-end is_hex_digit 16 t i v end in hex-short few many (first_field t) (omega (arith, e.long)))
  | inl h ↦ elim (cases_eq (get_or t i 0) 32) [
    | inl space ↦ (let e = at-space is_hex_digit 16 t i v h space in hex-short few many (first_field t) (omega (arith, e.long)))
    | inr other ↦ hex-stops few many v i t rest long stops h other
  ]
]

-- ---- a number of at most 16 digits

pub record IsSmall (i v d : ℕ) : Type 0 where
  pub below : v * 16 + d < 16 ^ (i + 1)
  pub fits : v * 16 + d < 2 ^ 64

pub hex-small : (i many v d : ℕ) → i < many → many ≤ 16 → v < 16 ^ i → d < 16 → IsSmall i v d
hex-small i many v d in_many many_in small digit =
    let below : i ≤ 15 = omega arith in
    let top : 16 ^ i ≤ 16 ^ 15 = pow-le-pow_right {n = 16} (omega arith) below in
    record {
      below = rw (add-one, pow-suc) (omega arith);
      fits = omega (arith, top);
    }
