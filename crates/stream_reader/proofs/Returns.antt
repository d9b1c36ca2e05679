-- A carriage return at the end of a line.
use Rattle.stream_reader.proofs.Words.{◌≡◌, ◌+◌, ◌-◌, ◌<◌, ◌≢◌, ◌==◌, ◌∷◌, ℕ, zero, suc, false, List, [], length, take, get_or, refl, sym, ap, arith}
use Rattle.stream_reader.proofs.Words.{eq-eqb, nat_tests, without_return}

last-return : (t : List ℕ) (n : ℕ) → n + 1 ≡ length t → get_or t n 0 ≡ 13 → without_return t ≡ take n t
unfolding without_return
last-return [] n h e = absurd (omega arith)
last-return (b ∷ []) zero h e = rw (eq-eqb b 13 e) refl
last-return (b ∷ []) (suc n) h e = absurd (omega arith)
last-return (b ∷ c ∷ t) zero h e = absurd (omega arith)
last-return (b ∷ c ∷ t) (suc n) h e = ap (λ u. b ∷ u) (last-return (c ∷ t) n (omega arith) e)

test : (b : ℕ) → b ≢ 13 → (b == 13) ≡ false
test b h = grind (arith, nat_tests)

other-last : (t : List ℕ) (n : ℕ) → n + 1 ≡ length t → get_or t n 0 ≢ 13 → without_return t ≡ t
unfolding without_return
other-last [] n h e = refl
other-last (b ∷ []) zero h e = rw (test b e) refl
other-last (b ∷ []) (suc n) h e = absurd (omega arith)
other-last (b ∷ c ∷ t) zero h e = absurd (omega arith)
other-last (b ∷ c ∷ t) (suc n) h e = ap (λ u. b ∷ u) (other-last (c ∷ t) n (omega arith) e)

pub with_return : (t : List ℕ) → 0 < length t → get_or t (length t - 1) 0 ≡ 13 → take (length t - 1) t ≡ without_return t
with_return t h e = sym (last-return t (length t - 1) (omega arith) e)

pub no_return : (t : List ℕ) → 0 < length t → get_or t (length t - 1) 0 ≢ 13 → t ≡ without_return t
no_return t h e = sym (other-last t (length t - 1) (omega arith) e)

pub nothing : (t : List ℕ) → length t ≡ 0 → t ≡ without_return t
unfolding without_return
nothing [] h = refl
nothing (b ∷ t) h = absurd (omega arith)
