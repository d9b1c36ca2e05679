-- Sums of values, of which some are added.
use Rattle.std.proofs.Common.{◌≡◌, ◌∙◌, ◌+◌, ◌∷◌, ℕ, ℤ, List, drop, sym, ap}
use Rattle.std.specs.Prelude.{fold}

-- one item is added to a sum
pub added_more : {X : Type 0} (f : ℤ → X → ℤ) (xs : List X) (i : ℕ) (x : X) (sum next all : ℤ) → drop i xs ≡ x ∷ drop (i + 1) xs → next ≡ f sum x →
    fold f sum (drop i xs) ≡ all → fold f next (drop (i + 1) xs) ≡ all
added_more f xs i x sum next all is more so_far = ap (λ s. fold f s (drop (i + 1) xs)) more ∙ ap (λ ys. fold f sum ys) (sym is) ∙ so_far
