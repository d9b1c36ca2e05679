-- Places of registers, one by one and all together.
use Rattle.std.proofs.Common.{sym, if◌then◌else◌, min, bit_or, ◌≡◌, ℕ, zero, suc, ◌^◌, ◌<◌, ◌≤◌, inl, inr, List, [], ◌∷◌, length, get_or, replicate, refl, ap, ◌∙◌, arith, Option, None}
use Rattle.counter_unit.proofs.Words.{◌==◌, or_zero_r, cases_eq, cond-true, cond-false, eq-eqb, ne_eqb}
use Rattle.counter_unit.proofs.Words.{pow_mono, Occ, Register}
use Rattle.counter_unit.proofs.Words.{IsThreshold, period, at_place, moved_place, all_moved}

pub at_place-replicate : (n c : ℕ) → at_place (replicate n None) c ≡ None
at_place-replicate zero c = refl
at_place-replicate (suc n) zero = refl
at_place-replicate (suc n) (suc c) = at_place-replicate n c

pub length-all_moved : (before : Option Occ) (o : Occ) (ws : List ℕ) (rs : List (Option Register)) → length rs ≡ length ws → length (all_moved before o ws rs) ≡ length rs
length-all_moved before o [] [] e = refl
length-all_moved before o [] (r ∷ rs) e = absurd (omega arith)
length-all_moved before o (w ∷ ws) [] e = refl
length-all_moved before o (w ∷ ws) (r ∷ rs) e = ap suc (length-all_moved before o ws rs (omega arith))

pub period_none : (w t : ℕ) → t ≡ 0 → period w t ≡ 2 ^ w
period_none w t none = cond-true (t == 0) (2 ^ w) t (eq-eqb t 0 none)

pub period_some : (w t : ℕ) → 0 < t → period w t ≡ t
period_some w t some = cond-false (t == 0) (2 ^ w) t (ne_eqb t 0 (λ e. omega arith))

-- a period is not 0 and not above what a register holds
pub period_fits : (w t : ℕ) → 16 ≤ w → IsThreshold w t → (256 ≤ period w t) × (period w t ≤ 2 ^ w)
period_fits w t low (inl none) = let most : 2 ^ 16 ≤ 2 ^ w = pow_mono low in let e = period_none w t none in (omega arith, omega arith)
period_fits w t low (inr fits) = let e = period_some w t (omega (arith, fits.0)) in (omega (arith, fits.0), omega (arith, fits.1))

pub at_place-all_moved : (before : Option Occ) (o : Occ) (ws : List ℕ) (rs : List (Option Register)) (c : ℕ) → length rs ≡ length ws → at_place (all_moved before o ws rs) c ≡ (moved_place before o (get_or ws c 0) (at_place rs c)).place
at_place-all_moved before o [] [] c e = refl
at_place-all_moved before o [] (r ∷ rs) c e = absurd (omega arith)
at_place-all_moved before o (w ∷ ws) [] c e = absurd (omega arith)
at_place-all_moved before o (w ∷ ws) (r ∷ rs) zero e = refl
at_place-all_moved before o (w ∷ ws) (r ∷ rs) (suc c) e = at_place-all_moved before o ws rs c (omega arith)

-- these bits with the first one, which is there if they are none
pub first_added : (bits counters first : ℕ) → first ≡ (if bits == 0 then min counters 1 else 0) → bit_or bits first ≡ (if bits == 0 then min counters 1 else bits)
first_added bits counters first is = elim (cases_eq bits 0) [
  | inl none ↦ ap (λ (b : ℕ). bit_or b first) none ∙ is ∙ cond-true (bits == 0) (min counters 1) 0 (eq-eqb bits 0 none) ∙ sym (cond-true (bits == 0) (min counters 1) bits (eq-eqb bits 0 none))
  | inr some ↦ ap (λ (b : ℕ). bit_or bits b) (is ∙ cond-false (bits == 0) (min counters 1) 0 (ne_eqb bits 0 some)) ∙ or_zero_r bits ∙ sym (cond-false (bits == 0) (min counters 1) bits (ne_eqb bits 0 some))
]

-- the rooms of these widths, while those below this one are done
pub record Filling (ws rooms : List ℕ) (done : ℕ) : Type 0 where
  pub long : length rooms ≡ 32
  pub each : (k : ℕ) → k < done → get_or rooms k 0 ≡ 2 ^ get_or ws k 0
