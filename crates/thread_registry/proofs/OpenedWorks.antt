-- The work of the threads, one after another.
use Rattle.thread_registry.proofs.Words.{◌≡◌, ℕ, zero, suc, ◌+◌, List, [], ◌∷◌, ◌++◌, length, subst, arith, Some, slice_get, Widths, Work, AreWorks}
use Rattle.thread_registry.proofs.Words.{IsWork}

-- those from the thread k on, and one more
more-from : (shape : Widths) (w : Work) (ws : List Work) (k : ℕ) → ((j : ℕ) (u : Work) → slice_get ws j ≡ Some u → IsWork shape (k + j) u) → IsWork shape (k + length ws) w
    → (t : ℕ) (v : Work) → slice_get (ws ++ w ∷ []) t ≡ Some v → IsWork shape (k + t) v
more-from shape w [] k old new zero v e = let same : w ≡ v = cc in subst (IsWork shape (k + 0)) same new
more-from shape w [] k old new (suc t) v e = absurd (cc)
more-from shape w (u ∷ ws) k old new zero v e = old 0 v e
more-from shape w (u ∷ ws) k old new (suc t) v e =
    subst (λ n. IsWork shape n v) (let q : k + 1 + t ≡ k + suc t = omega arith in q)
    (more-from shape w ws (k + 1) (λ j x f. subst (λ n. IsWork shape n x) (let q : k + suc j ≡ k + 1 + j = omega arith in q) (old (suc j) x f))
    (subst (λ n. IsWork shape n w) (let q : k + length (u ∷ ws) ≡ k + 1 + length ws = omega arith in q) new) t v e)

pub work-more : (shape : Widths) (ws : List Work) (w : Work) → AreWorks shape ws → IsWork shape (length ws) w → AreWorks shape (ws ++ w ∷ [])
work-more shape ws w all one =
    record {
      each =
          λ t v e.
          subst (λ n. IsWork shape n v) (let q : 0 + t ≡ t = omega arith in q)
          (more-from shape w ws 0 (λ j u f. subst (λ n. IsWork shape n u) (let q : j ≡ 0 + j = omega arith in q) (all.each j u f)) (subst (λ n. IsWork shape n w) (let q : length ws ≡ 0 + length ws = omega arith in q) one) t v e);
    }
