-- What holds of each item holds of the one at a place.
use Rattle.event_tables.proofs.Words.{◌≡◌, ◌∙◌, ◌<◌, ◌∷◌, ℕ, zero, suc, List, [], Some, map, length, get_or, sym, ap, arith, slice_get-get_or, set}
use Rattle.event_tables.proofs.Words.{slice_get, AllByRecursion}

pub all-get : {X Y : Type 0} (P : Y → Type 0) (view : X → Y) (xs : List X) (i : ℕ) (d : X) → AllByRecursion P (map view xs) → i < length xs → P (view (get_or xs i d))
all-get P view [] i d h lt = absurd (omega arith)
all-get P view (x ∷ xs) zero d h lt = h.0
all-get P view (x ∷ xs) (suc i) d h lt = all-get P view xs i d h.1 (omega arith)

pub all-item : {X : Type 0} (P : X → Type 0) (xs : List X) (i : ℕ) (d : X) → AllByRecursion P xs → i < length xs → P (get_or xs i d)
all-item P [] i d h lt = absurd (omega arith)
all-item P (x ∷ xs) zero d h lt = h.0
all-item P (x ∷ xs) (suc i) d h lt = all-item P xs i d h.1 (omega arith)

pub all-set : {X : Type 0} (P : X → Type 0) (xs : List X) (i : ℕ) (new : X) → AllByRecursion P xs → P new → AllByRecursion P (set xs i new)
all-set P [] i new h n = h
all-set P (x ∷ xs) zero new h n = (n, h.1)
all-set P (x ∷ xs) (suc i) new h n = (h.0, all-set P xs i new h.1 n)

-- the item at a place, and that there is none past the end
pub item-some : {X : Type 0} (xs : List X) (i : ℕ) (x : X) → x ≡ get_or xs i x → i < length xs → slice_get xs i ≡ Some x
item-some xs i x e lt = slice_get-get_or xs i x lt ∙ ap (λ y. Some y) (sym e)
