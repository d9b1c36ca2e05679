-- The values of sixteen bytes as digits, lane by lane.
use Rattle.std.proofs.Common.{◌≡◌, ℕ, zero, suc, ◌+◌, ◌-◌, ◌%◌, ◌^◌, ◌<◌, List, [], ◌∷◌, Bool, true, ◌&&◌, cond, ltb, eqb, length, map, replicate, bit_and, refl, subst, inl, inr, arith, w8, Fits}
use Rattle.std.specs.Prelude.{if◌then◌else◌, nat_le}
use Rattle.stream_reader.proofs.Words.{digit_value, zip2, sel_l, top, Each1, and_parts, cases_lt, eqb-true, leb-true, is_hex_digit, HasValue}
use Rattle.stream_reader.proofs.Words.{HaveValues}

abbrev pub less : ℕ → ℕ → ℕ
less a b = (a + (2 ^ 8 - b)) % 2 ^ 8

abbrev pub more : ℕ → ℕ → ℕ
more a b = (a + b) % 2 ^ 8

abbrev pub below : ℕ → ℕ → ℕ
below a b = cond (ltb a b) 255 0

-- ---- what is computed at one lane

abbrev pub smaller : ℕ → ℕ → ℕ
smaller a b = cond (top 7 (below a b)) a b

abbrev pub less_or_0 : ℕ → ℕ → ℕ
less_or_0 a b = less (cond (top 7 (below a b)) b a) b

abbrev pub lane : ℕ → ℕ
lane x = smaller (less (less_or_0 (more x 198) 6) 240) (more (smaller (less (bit_and x 223) 65) 200) 10)

is_right : ℕ → Bool
is_right b = if is_hex_digit b then eqb (lane b) (digit_value b) else nat_le 16 (lane b)

-- the test of the first n bytes, which computes
all_are_right : ℕ → Bool
all_are_right zero = true
all_are_right (suc n) = is_right n && all_are_right n

at-byte : (n b : ℕ) → all_are_right n ≡ true → b < n → is_right b ≡ true
unfolding all_are_right
at-byte zero b h lt = absurd (omega arith)
at-byte (suc n) b h lt =
    let parts = and_parts (is_right n) (all_are_right n) h in
    elim (cases_lt b n) [
      | inl lower ↦ at-byte n b parts.1 lower
      | inr last ↦
          let e : b ≡ n = omega arith in
          rw e parts.0
    ]

lane-value : (b : ℕ) → b < 256 → HasValue b (lane b)
unfolding is_right all_are_right
lane-value b h =
    let right : is_right b ≡ true = at-byte 256 b refl h in
    record {
      digit = λ yes. eqb-true (lane b) (digit_value b) (rw yes at right);
      other = λ no. leb-true 16 (lane b) (rw no at right);
    }

-- ---- what is computed of n lanes

abbrev pub smaller_l : List ℕ → List ℕ → List ℕ
smaller_l a b = sel_l (map (top 7) (zip2 below a b)) a b

abbrev pub less_or_0_l : List ℕ → List ℕ → List ℕ
less_or_0_l a b = zip2 less (sel_l (map (top 7) (zip2 below a b)) b a) b

abbrev pub computed : ℕ → List ℕ → List ℕ
computed n v =
    smaller_l (zip2 less (less_or_0_l (zip2 more v (replicate n 198)) (replicate n 6)) (replicate n 240))
    (zip2 more (smaller_l (zip2 less (zip2 bit_and v (replicate n 223)) (replicate n 65)) (replicate n 200)) (replicate n 10))

lanes : (v : List ℕ) → Each1 (Fits w8) v → HaveValues v (computed (length v) v)
unfolding HaveValues
lanes [] fits = tt
lanes (x ∷ xs) fits = (lane-value x fits.0.fits, lanes xs fits.1)

pub lanes_values : (v : List ℕ) → length v ≡ 16 → Each1 (Fits w8) v → HaveValues v (computed 16 v)
lanes_values v long fits = subst (λ n. HaveValues v (computed n v)) long (lanes v fits)
