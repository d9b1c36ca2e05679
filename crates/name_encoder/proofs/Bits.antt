-- Flags as bits, from the last one on.
use Rattle.name_encoder.proofs.Words.{◌≡◌, ◌+◌, ◌*◌, ◌<◌, ◌≤◌, ◌^◌, ◌∷◌, ℕ, zero, suc, List, [], Bool, true, false, map, length, get_or, drop, refl}
use Rattle.name_encoder.proofs.Words.{arith, two-pow-succ, pow_pos, drop_more, drop_all, length-map, bool_byte, not, if◌then◌else◌, bit_or}
use Rattle.name_encoder.proofs.Words.{CounterText, MaskText, bits_of, flag_bit, programmable, values_of}

pub bits-none : (flags : List Bool) (i : ℕ) → length flags ≤ i → 0 ≡ bits_of (drop i flags)
unfolding bits_of
bits-none flags i le = rw (drop_all i flags le) refl

pub bits-more : (flags : List Bool) (i j : ℕ) (d : Bool) → i ≡ j + 1 → j < length flags → bits_of (drop j flags) ≡ flag_bit (get_or flags j d) + 2 * bits_of (drop i flags)
unfolding bits_of
bits-more flags i j d e lt = rw (drop_more flags j d lt, e) refl

flag-small : (b : Bool) → flag_bit b ≤ 1
flag-small true = omega arith
flag-small false = omega arith

pub flag-byte : (b : Bool) → bool_byte b ≡ flag_bit b
flag-byte true = refl
flag-byte false = refl

pub bits-small : (flags : List Bool) (n : ℕ) → length flags ≤ n → bits_of flags < 2 ^ n
unfolding bits_of
bits-small [] n le = pow_pos n
bits-small (b ∷ flags) zero le = absurd (omega arith)
bits-small (b ∷ flags) (suc n) le =
    let more = bits-small flags n (omega (arith, le)) in
    let double : 2 ^ suc n ≡ 2 ^ n + 2 ^ n = two-pow-succ n in
    let flag = flag-small b in
    omega (arith, more, double, flag)

-- ---- the programmable counters

abbrev pub is_programmable : CounterText → Bool
is_programmable k = not k.fixed

pub programmable-none : {X : Type 0} (view : X → CounterText) (xs : List X) (i : ℕ) → length xs ≤ i → 0 ≡ programmable (map view (drop i xs))
unfolding bits_of
programmable-none view xs i le = rw (drop_all i xs le) refl

pub programmable-more : {X : Type 0} (view : X → CounterText) (xs : List X) (i j : ℕ) (d : X) → i ≡ j + 1 → j < length xs
    → programmable (map view (drop j xs)) ≡ flag_bit (is_programmable (view (get_or xs j d))) + 2 * programmable (map view (drop i xs))
unfolding bits_of
programmable-more view xs i j d e lt = rw (drop_more xs j d lt, e) refl

pub programmable-small : (counters : List CounterText) (n : ℕ) → length counters ≤ n → programmable counters < 2 ^ n
programmable-small counters n le = bits-small (map is_programmable counters) n (omega (arith, le, length-map counters is_programmable))

-- ---- the values of umasks

pub values-none : {X : Type 0} (view : X → MaskText) (flags : List Bool) (xs : List X) (i : ℕ) → length xs ≤ i → length flags ≡ length xs → 0 ≡ values_of (drop i flags) (map view (drop i xs))
unfolding values_of
values-none view flags xs i le same = rw (drop_all i flags (omega (arith, le, same))) refl

pub values-more : {X : Type 0} (view : X → MaskText) (flags : List Bool) (xs : List X) (i j : ℕ) (d : X) → i ≡ j + 1 → j < length xs → length flags ≡ length xs
    → values_of (drop j flags) (map view (drop j xs)) ≡ bit_or (if get_or flags j false then (view (get_or xs j d)).bits else 0) (values_of (drop i flags) (map view (drop i xs)))
unfolding values_of
values-more view flags xs i j d e lt same = rw (drop_more flags j false (omega (arith, lt, same)), drop_more xs j d lt, e) refl
