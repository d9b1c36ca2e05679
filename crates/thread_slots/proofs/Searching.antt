-- The first place where a test holds, one item more.
use Rattle.thread_slots.proofs.Words.{◌≡◌, ℕ, ◌+◌, List, [], ◌∷◌, ◌++◌, map, drop, ap, ap₂, sym, ◌∙◌, Some, slice_get, append_assoc}
use Rattle.thread_slots.proofs.Lists.{drop_at}

-- one item more in a loop that goes over two lists
pub both_more : {X Y Z : Type 0} (F : List X → List Y → List Z) (f : X → Y → Z) → ((x : X) (xs : List X) (y : Y) (ys : List Y) → F (x ∷ xs) (y ∷ ys) ≡ f x y ∷ F xs ys) → (xs : List X) (ys : List Y) (done all : List Z) (i : ℕ) (x : X) (y : Y) (z : Z)
    → slice_get xs i ≡ Some x → slice_get ys i ≡ Some y → z ≡ f x y → done ++ F (drop i xs) (drop i ys) ≡ all → (done ++ z ∷ []) ++ F (drop (i + 1) xs) (drop (i + 1) ys) ≡ all
both_more F f step xs ys done all i x y z e g is h =
    append_assoc done (z ∷ []) (F (drop (i + 1) xs) (drop (i + 1) ys)) ∙ ap (λ v. done ++ v ∷ F (drop (i + 1) xs) (drop (i + 1) ys)) is
    ∙ ap (λ zs. done ++ zs) (sym (step x (drop (i + 1) xs) y (drop (i + 1) ys)) ∙ sym (ap₂ F (drop_at xs i x e) (drop_at ys i y g))) ∙ h

-- one item more in a loop that maps
pub map_more : {X Y : Type 0} (f : X → Y) (xs : List X) (done all : List Y) (i : ℕ) (x : X) (y : Y) → slice_get xs i ≡ Some x → y ≡ f x → done ++ map f (drop i xs) ≡ all → (done ++ y ∷ []) ++ map f (drop (i + 1) xs) ≡ all
map_more f xs done all i x y e is h =
    append_assoc done (y ∷ []) (map f (drop (i + 1) xs)) ∙ ap (λ v. done ++ v ∷ map f (drop (i + 1) xs)) is ∙ sym (ap (λ zs. done ++ map f zs) (drop_at xs i x e)) ∙ h
