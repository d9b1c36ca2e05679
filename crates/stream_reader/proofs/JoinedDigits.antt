-- Sixteen digits joined to a number: pairs of them as lanes of 16 bits, and the bytes that these make.
use Rattle.stream_reader.proofs.Words.{◌≡◌, ℕ, zero, suc, ◌+◌, ◌*◌, ◌/◌, ◌%◌, ◌^◌, ◌<◌, List, [], ◌∷◌, length, map, replicate, bit_and, refl, sym, ap}
use Rattle.stream_reader.proofs.Words.{subst, ◌∙◌, arith, w64, from_be_bytes, zip2, number_l, digits_l, Each1, and_mask, length-map, number_after}
use Rattle.stream_reader.proofs.FirstItems.{whole}

abbrev pub times : ℕ → ℕ → ℕ
times a b = a * b % 2 ^ 16

abbrev pub down : ℕ → ℕ → ℕ
down a b = a / 2 ^ b

abbrev pub low : ℕ → ℕ
low x = x % 16

-- each pair of digits as a byte
joins : List ℕ → List ℕ
joins [] = []
joins (a ∷ []) = []
joins (a ∷ b ∷ rest) = (a * 16 + b) ∷ joins rest

-- what is computed of pairs of digits
abbrev pub packed : ℕ → List ℕ → List ℕ
packed n ys = zip2 down (zip2 times (digits_l (2 ^ 16) n (number_l (2 ^ 8) ys)) (replicate n 4097)) (replicate n 8)

-- the same of a number that holds the pairs
abbrev packed_from : ℕ → ℕ → List ℕ
packed_from n x = zip2 down (zip2 times (digits_l (2 ^ 16) n x) (replicate n 4097)) (replicate n 8)

lows : (v : List ℕ) → zip2 bit_and v (replicate (length v) 15) ≡ map low v
lows [] = refl
lows (x ∷ xs) = λ i. and_mask x 4 i ∷ lows xs i

pub small : (v : List ℕ) → Each1 (λ y. y < 16) (map low v)
small [] = tt
small (x ∷ xs) = (omega arith, small xs)

record IsPair (a b r : ℕ) : Type 0 where
  byte : down (times ((a + 2 ^ 8 * (b + 2 ^ 8 * r)) % 2 ^ 16) 4097) 8 ≡ a * 16 + b
  rest : (a + 2 ^ 8 * (b + 2 ^ 8 * r)) / 2 ^ 16 ≡ r

one-pair : (a b r : ℕ) → a < 16 → b < 16 → IsPair a b r
one-pair a b r p q =
    let lane : (a + 2 ^ 8 * (b + 2 ^ 8 * r)) % 2 ^ 16 ≡ a + 256 * b = omega arith in
    record {
      byte = rw lane (omega arith);
      rest = omega arith;
    }

pairs : (n : ℕ) (ys : List ℕ) → length ys ≡ n * 2 → Each1 (λ y. y < 16) ys → packed n ys ≡ joins ys
unfolding joins
pairs zero [] e h = refl
pairs zero (a ∷ ys) e h = absurd (omega arith)
pairs (suc n) [] e h = absurd (omega arith)
pairs (suc n) (a ∷ []) e h = absurd (omega arith)
pairs (suc n) (a ∷ b ∷ ys) e h =
    let p = one-pair a b (number_l (2 ^ 8) ys) h.0 h.1.0 in
    λ i. p.byte i ∷ (ap (packed_from n) p.rest ∙ pairs n ys (omega arith) h.1.1) i

sixteen : (ys : List ℕ) → length ys ≡ 16 → from_be_bytes w64 (joins ys) ≡ number_after 0 ys
unfolding joins number_after
sixteen ys e = subst (λ (zs : List ℕ). from_be_bytes w64 (joins zs) ≡ number_after 0 zs) (sym (whole 0 16 ys e)) (omega arith)

pub joined_value : (v : List ℕ) → length v ≡ 16 → from_be_bytes w64 (packed 8 (zip2 bit_and v (replicate 16 15))) ≡ number_after 0 (map low v)
joined_value v long =
    let nibbles : zip2 bit_and v (replicate 16 15) ≡ map low v = subst (λ n. zip2 bit_and v (replicate n 15) ≡ map low v) long (lows v) in
    ap (λ ys. from_be_bytes w64 (packed 8 ys)) nibbles
    ∙ ap (from_be_bytes w64) (pairs 8 (map low v) (length-map v low ∙ long) (small v))
    ∙ sixteen (map low v) (length-map v low ∙ long)
