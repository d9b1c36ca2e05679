-- Where a text has its first newline.
use Rattle.stream_reader.proofs.Words.{◌≡◌, ◌∙◌, ◌+◌, ◌<◌, ◌≤◌, ◌++◌, ◌∷◌, ◌==◌, ℕ, suc, Bool, true, false, not, List, [], length, take, get_or, refl}
use Rattle.stream_reader.proofs.Words.{sym, ap, subst, arith, add-one, Option, Some, None, AllByRecursion, prefix_len, drop-cons, length-take-le}
use Rattle.stream_reader.proofs.Words.{take-append-drop, get_or-take, eqb-true, run_in_chunk_fails, run_in_chunk_stops, IsFirstByte, is_byte}
use Rattle.stream_reader.proofs.Words.{FindsNewline}

not-true : (b : Bool) → (b ≡ true → ⊥) → b ≡ false
not-true true h = absurd (h refl)
not-true false h = refl

by-index : (t : List ℕ) → ((k : ℕ) → k < length t → (get_or t k 0 == 10) ≡ true → ⊥) → AllByRecursion (λ b. (b == 10) ≡ false) t
by-index [] h = tt
by-index (b ∷ t) h = (not-true (b == 10) (h 0 (omega arith)), by-index t (λ k lt. h (suc k) (omega arith)))

pub finds-newline : (t : List ℕ) (r : Option ℕ) → IsFirstByte (is_byte 10) t r → FindsNewline t r
finds-newline t None h = record { each = by-index t (λ k lt e. h k (omega arith) lt e) }
finds-newline t (Some n) h =
    let low : n < length t = h.0.high in
    let byte : get_or t n 0 ≡ 10 = eqb-true (get_or t n 0) 10 h.1 in
    let long : length (take n t) ≡ n = length-take-le n t (omega arith) in
    let front : (k : ℕ) → k < length (take n t) → (get_or (take n t) k 0 == 10) ≡ true → ⊥ =
    λ k lt e. let below : k < n = omega (arith, long) in h.0.before k (omega arith) below (sym (ap (λ b. b == 10) (get_or-take n t k 0 below)) ∙ e) in
    (low, record { each = by-index (take n t) front }, sym (take-append-drop n t) ∙ ap (λ u. take n t ++ u) (rw (add-one, ← byte) (drop-cons t n 0 low)))

-- where it is, if it is among the first n bytes
pub near-newline : (t : List ℕ) (r n : ℕ) → n ≤ length t → r ≡ prefix_len (λ b. not (b == 10)) (take n t) → r < n → FindsNewline t (Some r)
near-newline t r n room counted less =
    let at : 0 + r ≡ r = omega arith in
    let none : (k : ℕ) → 0 ≤ k → k < r → (get_or t k 0 == 10) ≡ true → ⊥ =
    λ k low high newline. cc (run_in_chunk_fails (is_byte 10) t 0 n r 0 (omega arith) counted k low (omega arith), newline) in
    let stops : (get_or t r 0 == 10) ≡ true = subst (λ i. (get_or t i 0 == 10) ≡ true) at (run_in_chunk_stops (is_byte 10) t 0 n r 0 (omega arith) counted less) in
    finds-newline t (Some r) (record { low = omega arith; high = omega arith; before = none }, stops)
