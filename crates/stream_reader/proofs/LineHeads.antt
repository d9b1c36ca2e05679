-- The fields between the component and the amount.
use Rattle.stream_reader.proofs.Words.{◌≡◌, ◌+◌, ◌*◌, ◌≤◌, ◌==◌, ◌∷◌, ℕ, Bool, true, false, [], Some, refl, ap, arith, bit_or, if◌then◌else◌}
use Rattle.stream_reader.proofs.Words.{digit_value, nat_tests, le_or_l, le_or_r, hex_in, is_hex_digit, mode_of, digit_or_256, mode_or_256, IsInner}
use Rattle.stream_reader.proofs.Words.{is_inner}

pub inner-hex : (b : ℕ) → is_hex_digit b ≡ true → is_inner b ≡ true
inner-hex b h = grind (arith, nat_tests)

-- a byte whose value is that of a digit
pub record IsHex (b : ℕ) : Type 0 where
  pub test : is_hex_digit b ≡ true
  pub inner : is_inner b ≡ true

pub is-hex : (b : ℕ) → digit_or_256 b ≤ 255 → IsHex b
is-hex b h = go (is_hex_digit b) refl h
  where
    go : (x : Bool) → is_hex_digit b ≡ x → (if x then digit_value b else 256) ≤ 255 → IsHex b
    go true p q = record { test = p; inner = inner-hex b p }
    go false p q = absurd (omega arith)

first-small : (m n : ℕ) → m * 16 + n ≤ 255 → m ≤ 255
first-small m n h = omega arith

second-small : (m n : ℕ) → m * 16 + n ≤ 255 → n ≤ 255
second-small m n h = omega arith

-- two bytes that write a byte
pub record IsByte (a b : ℕ) : Type 0 where
  pub value : hex_in 2 2 (a ∷ b ∷ []) ≡ Some (digit_or_256 a * 16 + digit_or_256 b)
  pub inner : IsInner (a ∷ b ∷ [])

pub is-byte : (a b : ℕ) → digit_or_256 a * 16 + digit_or_256 b ≤ 255 → IsByte a b
unfolding hex_in
is-byte a b h =
    let x = is-hex a (first-small (digit_or_256 a) (digit_or_256 b) h) in
    let y = is-hex b (second-small (digit_or_256 a) (digit_or_256 b) h) in
    record {
      value = rw (x.test, y.test) (ap Some (omega arith));
      inner = record { each = rw (x.inner, y.inner) refl };
    }

-- the mode
pub record IsMode (b : ℕ) : Type 0 where
  pub value : mode_of (b ∷ []) ≡ Some (mode_or_256 b == 1)
  pub inner : IsInner (b ∷ [])

pub is-mode : (b : ℕ) → mode_or_256 b ≤ 255 → IsMode b
unfolding mode_of
is-mode b h = go (b == 117) (b == 107) refl refl
  where
    go : (x y : Bool) → (b == 117) ≡ x → (b == 107) ≡ y → IsMode b
    go true y p q = (let e : b ≡ 117 = grind (arith, nat_tests) in rw e (record { value = refl; inner = record { each = refl } }))
    go false true p q = (let e : b ≡ 107 = grind (arith, nat_tests) in rw e (record { value = refl; inner = record { each = refl } }))
    go false false p q = absurd (omega (arith, (rw (p, q) at h)))

-- ---- three numbers at once

pub record AreBytes (s u m : ℕ) : Type 0 where
  pub first : s ≤ 255
  pub second : u ≤ 255
  pub third : m ≤ 255

pub are-bytes : (s u m : ℕ) → bit_or (bit_or s u) m ≤ 255 → AreBytes s u m
are-bytes s u m h =
    let two = bit_or s u in
    let x : two ≤ 255 = omega (arith, le_or_l two m) in
    record {
      first = omega (arith, le_or_l s u);
      second = omega (arith, le_or_r s u);
      third = omega (arith, le_or_r two m);
    }
