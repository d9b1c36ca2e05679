-- Rust's wrapping division is the wrapped quotient.
use Rattle.postfix_rules.proofs.Words.{◌≡◌, ◌-◌, ◌/◌, ◌%◌, ◌^◌, ◌≤◌, ◌==◌, ℕ, zero, suc, Bool, true, false, ℤ, pos, negsuc, neg_ℤ, unsigned_abs}
use Rattle.postfix_rules.proofs.Words.{int_div, FitsSigned, w64, refl, ap, arith, div-le_self, mod-eq_of_lt, to_z, of_z, if◌then◌else◌, eqb-true}
use Rattle.postfix_rules.proofs.Words.{int_wrap, int_wrapping_div, divided, wrapped}

abs-neg : (n : ℕ) → unsigned_abs (neg_ℤ (pos n)) ≡ n
abs-neg zero = refl
abs-neg (suc n) = refl

fits-abs : (x : ℤ) → FitsSigned w64 x → unsigned_abs x ≤ 2 ^ 63
fits-abs (pos n) h = omega (arith, h)
fits-abs (negsuc n) h = omega (arith, h)

quot-abs : (x y : ℤ) → unsigned_abs (int_div x y) ≤ unsigned_abs x
quot-abs (pos a) (pos b) = div-le_self a b
quot-abs (pos a) (negsuc b) = rw (abs-neg (a / suc b)) (div-le_self a (suc b))
quot-abs (negsuc a) (pos b) = rw (abs-neg (suc a / b)) (div-le_self (suc a) b)
quot-abs (negsuc a) (negsuc b) = div-le_self (suc a) (suc b)

near : (z : ℤ) → unsigned_abs z ≤ 2 ^ 63 → to_z w64 (of_z w64 z) ≡ int_wrap w64 z
unfolding int_wrap
near (pos n) h = let m : n % 2 ^ 64 ≡ n = mod-eq_of_lt (omega (arith, h)) in rw m refl
near (negsuc n) h =
    let m : n % 2 ^ 64 ≡ n = mod-eq_of_lt (omega (arith, h)) in
    let e : 2 ^ 64 - suc n ≡ 2 ^ 64 - 1 - n % 2 ^ 64 = rw m (omega (arith, h)) in
    ap (to_z w64) e

pub div-wrapped : (x y : ℤ) → FitsSigned w64 x → (unsigned_abs y ≡ 0 → ⊥) → int_wrapping_div w64 x y ≡ divided x y
unfolding divided
div-wrapped x y h ne = go (unsigned_abs y == 0) refl
  where
    go : (b : Bool) → (unsigned_abs y == 0) ≡ b → int_wrapping_div w64 x y ≡ (if b then pos 0 else wrapped (int_div x y))
    go true e = absurd (ne (eqb-true (unsigned_abs y) 0 e))
    go false e = near (int_div x y) (let q = quot-abs x y in let f = fits-abs x h in omega (arith, q, f))

pub zero-bits : (y : ℤ) → unsigned_abs y ≡ 0 → of_z w64 y ≡ 0
zero-bits (pos n) e = e
zero-bits (negsuc n) e = absurd (omega (arith, e))
