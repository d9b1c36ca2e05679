-- An estimate, computed in two parts that fit 64 bits.
use Rattle.multiplex.proofs.Words.{◌≡◌, ℕ, zero, suc, ◌+◌, ◌*◌, ◌/◌, ◌%◌, ◌<◌, false, refl, ap, sym, ◌∙◌, arith, div-mul-add, div-add-mod', mod_below}
use Rattle.multiplex.proofs.Words.{mul-div_cancel, cond-false, ne_eqb, nat_tests, estimate, OneGroupEstimate}
use Rattle.std.specs.Prelude.{◌==◌}
use Rattle.multiplex.proofs.Ticks.{one_group_active}

-- whole multiples of the divisor come out of a quotient
quotient_more : (a b m : ℕ) → 0 < m → (a * m + b) / m ≡ a + b / m
quotient_more a b m some =
    let split = div-add-mod' b m in
    let e : a * m + b ≡ (a + b / m) * m + b % m = omega arith in
    ap (λ k. k / m) e ∙ div-mul-add (a + b / m) m (b % m) (mod_below b m some)

estimate_parts : (count total active : ℕ) → 0 < active → count / active * total + count % active * total / active ≡ count * total / active
estimate_parts count total active some =
    let split = div-add-mod' count active in
    let whole : count * total ≡ count / active * total * active + count % active * total = ap (λ k. k * total) (sym split) ∙ omega arith in
    sym (ap (λ k. k / active) whole ∙ quotient_more (count / active * total) (count % active * total) active some)

pub estimate_some : (count total active : ℕ) → (active ≡ 0 → ⊥) → count / active * total + count % active * total / active ≡ estimate count total active
estimate_some count total active isnt = estimate_parts count total active (above active isnt) ∙ sym (cond-false (active == 0) 0 (count * total / active) (ne_eqb active 0 isnt)) where
  above : (n : ℕ) → (n ≡ 0 → ⊥) → 0 < n
  above zero h = absurd (h refl)
  above (suc n) h = omega arith

pub estimate_whole : (count time : ℕ) → (time ≡ 0 → count ≡ 0) → estimate count time time ≡ count
estimate_whole count zero h = sym (h refl)
estimate_whole count (suc t) h = let e : (suc t == 0) ≡ false = grind (arith, nat_tests) in rw e (mul-div_cancel count (let p : 0 < suc t = omega arith in p))

pub one_group_estimate : OneGroupEstimate
one_group_estimate t count total one none = ap (estimate count total) (one_group_active t total one) ∙ estimate_whole count total none
