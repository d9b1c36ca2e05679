-- Native events of one component, one by one.
use Rattle.postfix_rules.proofs.Words.{◌≡◌, ◌<◌, ◌≤◌, ◌∷◌, ℕ, zero, suc, List, [], Some, length, slice_get, slice_index_or, refl, arith, Native}
use Rattle.postfix_rules.proofs.Words.{OfOneComponent}

-- those below a place are of a component
abbrev pub SameBelow : List Native → ℕ → ℕ → Type 0
SameBelow natives comp i = (k : ℕ) (n : Native) → k < i → slice_get natives k ≡ Some n → n.comp ≡ comp

get-at : (natives : List Native) (k : ℕ) (d : Native) → k < length natives → slice_get natives k ≡ Some (slice_index_or natives k d)
get-at [] k d lt = absurd (omega (arith, lt))
get-at (n ∷ natives) zero d lt = refl
get-at (n ∷ natives) (suc k) d lt = get-at natives k d (omega (arith, lt))

pub same-all : (natives : List Native) (comp i : ℕ) → length natives ≤ i → SameBelow natives comp i → OfOneComponent natives
same-all natives comp i le below = (comp, λ k d lt. below k (slice_index_or natives k d) (omega (arith, le, lt)) (get-at natives k d lt))
