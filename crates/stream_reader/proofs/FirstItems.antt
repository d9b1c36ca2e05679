-- The items of a list from some place on, one by one.
use Rattle.stream_reader.proofs.Words.{◌≡◌, ◌∙◌, ◌+◌, ◌≤◌, ◌∷◌, ℕ, zero, suc, List, [], length, take, drop, get_or, refl, sym, ap, arith, add-one}
use Rattle.stream_reader.proofs.Words.{drop-cons, take_all}

pub cut-at : {A : Type 0} (d : A) (t : List A) (i : ℕ) → i + 1 ≤ length t → drop i t ≡ get_or t i d ∷ drop (i + 1) t
cut-at d t i h = rw add-one (drop-cons t i d (omega arith))

abbrev pub items : {A : Type 0} → A → ℕ → ℕ → List A → List A
items d zero i t = []
items d (suc n) i t = get_or t i d ∷ items d n (i + 1) t

pub taken : {A : Type 0} (d : A) (n i : ℕ) (t : List A) → i + n ≤ length t → take n (drop i t) ≡ items d n i t
taken d zero i t h = refl
taken d (suc n) i t h = rw (cut-at d t i (omega arith)) (ap (λ rest. get_or t i d ∷ rest) (taken d n (i + 1) t (omega arith)))

pub whole : {A : Type 0} (d : A) (n : ℕ) (t : List A) → length t ≡ n → t ≡ items d n 0 t
whole d n t e = sym (take_all n t (omega arith)) ∙ taken d n 0 t (omega arith)
