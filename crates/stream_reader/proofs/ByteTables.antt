-- The tables of bytes, place by place.
use Rattle.stream_reader.proofs.Words.{◌≡◌, ◌<◌, ◌≤◌, ◌==◌, ◌&&◌, ℕ, zero, suc, Bool, true, false, inl, inr, slice_index, refl, arith, digit_value}
use Rattle.stream_reader.proofs.Words.{and_parts, cases_lt, eqb-true, leb-true, ltb-true, is_digit, is_hex_digit, DECIMALS, DIGITS, MODES}
use Rattle.stream_reader.proofs.Words.{decimal_or_256, digit_or_256, mode_or_256}
use Rattle.std.specs.Prelude.{if◌then◌else◌, nat_le}
use Rattle.stream_reader.proofs.DecimalBytes.{digit}

-- the test of the places below n, which computes
abbrev pub all_same : (ℕ → ℕ) → (ℕ → ℕ) → ℕ → Bool
all_same f g zero = true
all_same f g (suc n) = (f n == g n) && all_same f g n

pub at-place : (f g : ℕ → ℕ) (n b : ℕ) → all_same f g n ≡ true → b < n → f b ≡ g b
at-place f g zero b h lt = absurd (omega arith)
at-place f g (suc n) b h lt =
    let parts = and_parts (f n == g n) (all_same f g n) h in
    elim (cases_lt b n) [
      | inl below ↦ at-place f g n b parts.1 below
      | inr last ↦
          let e : b ≡ n = omega arith in
          rw e (eqb-true (f n) (g n) parts.0)
    ]

pub digits-at : (b : ℕ) → b < 256 → slice_index DIGITS b ≡ digit_or_256 b
digits-at b h = at-place (λ n. slice_index DIGITS n) digit_or_256 256 b refl h

pub decimals-at : (b : ℕ) → b < 256 → slice_index DECIMALS b ≡ decimal_or_256 b
decimals-at b h = at-place (λ n. slice_index DECIMALS n) decimal_or_256 256 b refl h

pub modes-at : (b : ℕ) → b < 256 → slice_index MODES b ≡ mode_or_256 b
modes-at b h = at-place (λ n. slice_index MODES n) mode_or_256 256 b refl h

pub digit-most : (b : ℕ) → digit_or_256 b ≤ 256
digit-most b = go (is_hex_digit b) refl
  where
    go : (x : Bool) → is_hex_digit b ≡ x → (if x then digit_value b else 256) ≤ 256
    go true p = omega (arith, ltb-true (digit_value b) 16 p)
    go false p = omega arith

pub decimal-most : (b : ℕ) → decimal_or_256 b ≤ 256
decimal-most b = go (is_digit b) refl
  where
    go : (x : Bool) → is_digit b ≡ x → (if x then digit_value b else 256) ≤ 256
    go true p =
        let parts = and_parts (nat_le 48 b) (nat_le b 57) p in
        omega (arith, leb-true b 57 parts.1, (digit b (leb-true 48 b parts.0) (leb-true b 57 parts.1)).value)
    go false p = omega arith

pub mode-most : (b : ℕ) → mode_or_256 b ≤ 256
mode-most b = go (b == 117) (b == 107)
  where
    go : (x y : Bool) → (if x then 0 else if y then 1 else 256) ≤ 256
    go true y = omega arith
    go false true = omega arith
    go false false = omega arith
