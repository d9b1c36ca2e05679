-- A register and its bank are functions of the count.
use Rattle.counter_unit.proofs.Words.{◌≡◌, ℕ, ◌+◌, ◌-◌, ◌*◌, ◌/◌, ◌%◌, ◌^◌, ◌<◌, ◌≤◌, true, false, ◌⊎◌, inl, inr, ap, ap₂, sym, ◌∙◌, arith, cases_lt}
use Rattle.counter_unit.proofs.Words.{cond-true, cond-false, le-leb, lt-leb, lt-ltb, le-ltb, mod-eq_of_lt, div-add-mod', Native, Domain, Register}
use Rattle.counter_unit.proofs.Words.{IsThreshold, period, begun, beginning, carries, register_at, whole, wrapped, Added}
use Rattle.counter_unit.proofs.Places.{period_fits}
use Rattle.counter_unit.proofs.Periods.{period_stays, period_over}

wrapped-add : (a b : ℕ) → wrapped (wrapped a + b) ≡ wrapped (a + b)
wrapped-add a b = omega arith

pub added : (w : ℕ) (n : Native) (d : Domain) (t count more : ℕ) → 16 ≤ w → IsThreshold w t → more ≤ 255 → Added w n d t count more
added w n d t count more low fits small = go (cases_lt (count % m + more) m) where
  m : ℕ
  m = period w t

  p : (256 ≤ period w t) × (period w t ≤ 2 ^ w)
  p = period_fits w t low fits

  put : ℕ → ℕ → Register
  put v b = record (register_at w n d t count) { value = v; bank = b }

  go : (count % period w t + more < period w t) ⊎ (period w t ≤ count % period w t + more) → Added w n d t count more
  go (inl under) =
      let h = period_stays (period w t) count more under in
      let no : carries w more (register_at w n d t count) ≡ false = lt-leb (2 ^ w) _ (omega (arith, p.1)) in
      record {
        register = ap₂ put (cond-false (carries w more (register_at w n d t count)) _ _ no ∙ (let e = h.1 in omega arith)) (cond-false (carries w more (register_at w n d t count)) _ _ no ∙ ap (λ k. wrapped (k * period w t)) (sym h.0));
        carried = no ∙ sym (le-ltb (count / period w t) ((count + more) / period w t) (let e = h.0 in omega arith));
      }
  go (inr over) =
      let h = period_over (period w t) count more (omega (arith, p.0)) (omega (arith, p.0)) over in
      let yes : carries w more (register_at w n d t count) ≡ true = le-leb (2 ^ w) _ (omega (arith, p.1)) in
      let one_more : (count / period w t + 1) * period w t ≡ count / period w t * period w t + period w t = omega arith in
      record {
        register = ap₂ put (cond-true (carries w more (register_at w n d t count)) _ _ yes ∙ (let e = h.1 in omega (arith, p.1))) (cond-true (carries w more (register_at w n d t count)) _ _ yes ∙ wrapped-add (count / period w t * period w t) (period w t) ∙ ap wrapped (sym one_more) ∙ ap (λ k. wrapped (k * period w t)) (sym h.0));
        carried = yes ∙ sym (lt-ltb (count / period w t) ((count + more) / period w t) (let e = h.0 in omega arith));
      }

-- the bank and what the register is above its beginning are the count in 64 bits
pub whole_is : (w : ℕ) (n : Native) (d : Domain) (t count : ℕ) → whole w (register_at w n d t count) ≡ wrapped count
whole_is w n d t count = let split = div-add-mod' count (period w t) in omega arith

-- and the count itself if it fits
pub sum_is : (w : ℕ) (n : Native) (d : Domain) (t count : ℕ) → count < 2 ^ 64 → (register_at w n d t count).bank + ((register_at w n d t count).value - beginning w t) ≡ count
sum_is w n d t count fits = let split = div-add-mod' count (period w t) in omega arith

pub exact_is : (w : ℕ) (n : Native) (d : Domain) (t count : ℕ) → count < 2 ^ 64 → whole w (register_at w n d t count) ≡ count
exact_is w n d t count fits = whole_is w n d t count ∙ mod-eq_of_lt fits

-- a register begins with the count 0
pub begun_is : (w : ℕ) (n : Native) (d : Domain) (t : ℕ) → 16 ≤ w → IsThreshold w t → begun w n d t ≡ register_at w n d t 0
begun_is w n d t low fits =
    let p = period_fits w t low fits in
    let over : 0 % period w t ≡ 0 = omega (arith, p.0) in
    let times : 0 / period w t ≡ 0 = omega (arith, p.0) in
    let put : ℕ → ℕ → Register = λ v b. record (begun w n d t) { value = v; bank = b } in
    ap₂ put (omega arith) (rw times (omega arith))
