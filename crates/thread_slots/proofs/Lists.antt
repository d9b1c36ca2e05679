-- Items of lists by their numbers.
use Rattle.std.proofs.Common.{◌≡◌, ℕ, zero, suc, ◌<◌, List, [], ◌∷◌, length, map, set, get_or, refl, ap, ap₂, sym, ◌∙◌, arith, Option, Some, None, option_map, slice_get}
use Rattle.std.specs.Prelude.{unwrap_or}
use Rattle.std.proofs.lemmas.Option.{get_or_from_slice_get, slice_get-get_or, slice_get-map, slice_get_read}
use Rattle.std.proofs.lemmas.List.{length-set, get_or-set_same, set-get_or}
use Rattle.session_model.specs.Faces.{at}
pub use Rattle.std.proofs.lemmas.Option.{slice_get-map as get-map}
pub use Rattle.multiplex.proofs.Grouping.{all_at}
pub use Rattle.papi_base.proofs.Steps.{drop_at, get_at}

pub get-map_some : {X Y : Type 0} (f : X → Y) (xs : List X) (i : ℕ) (x : X) → slice_get xs i ≡ Some x → slice_get (map f xs) i ≡ Some (f x)
get-map_some f xs i x e = slice_get-map f xs i ∙ ap (option_map f) e

-- lists with the same items are the same
pub same_items : {X : Type 0} (xs ys : List X) → ((i : ℕ) → slice_get xs i ≡ slice_get ys i) → xs ≡ ys
same_items [] [] h = refl
same_items [] (y ∷ ys) h = let e = h 0 in cc
same_items (x ∷ xs) [] h = let e = h 0 in cc
same_items (x ∷ xs) (y ∷ ys) h = let e = h 0 in ap₂ ◌∷◌ (let same : x ≡ y = cc in same) (same_items xs ys (λ i. h (suc i)))

pub get-set_same : {X : Type 0} (xs : List X) (i : ℕ) (x : X) → i < length xs → slice_get (set xs i x) i ≡ Some x
get-set_same xs i x h = slice_get-get_or (set xs i x) i x (omega (arith, length-set xs i x)) ∙ ap Some (get_or-set_same xs i x x h)

pub get-set_other : {X : Type 0} (xs : List X) (i k : ℕ) (x : X) → (k ≡ i → ⊥) → slice_get (set xs i x) k ≡ slice_get xs k
get-set_other [] i k x h = refl
get-set_other (y ∷ xs) zero zero x h = absurd (h refl)
get-set_other (y ∷ xs) zero (suc k) x h = refl
get-set_other (y ∷ xs) (suc i) zero x h = refl
get-set_other (y ∷ xs) (suc i) (suc k) x h = get-set_other xs i k x (λ e. h (ap suc e))

-- two functions that agree on the items
pub map_same_on : {X Y : Type 0} (f g : X → Y) (xs : List X) → ((i : ℕ) (x : X) → slice_get xs i ≡ Some x → f x ≡ g x) → map f xs ≡ map g xs
map_same_on f g [] h = refl
map_same_on f g (x ∷ xs) h = ap₂ ◌∷◌ (h 0 x refl) (map_same_on f g xs (λ i y e. h (suc i) y e))

pub map_same : {X Y : Type 0} (f g : X → Y) → ((x : X) → f x ≡ g x) → (xs : List X) → map f xs ≡ map g xs
map_same f g h xs = map_same_on f g xs (λ i x e. h x)

-- what is under a number
pub at-some : {X : Type 0} (places : List (Option X)) (k : ℕ) (x : X) → at places k ≡ Some x → slice_get places k ≡ Some (Some x)
at-some {X = X} places k x e = go (slice_get places k) refl where
  go : (o : Option (Option X)) → slice_get places k ≡ o → slice_get places k ≡ Some (Some x)
  go None q = let f = sym (ap (λ y. unwrap_or y None) q) ∙ e in cc
  go (Some y) q = let f = sym (ap (λ z. unwrap_or z None) q) ∙ e in q ∙ ap Some f

pub some-at : {X : Type 0} (places : List (Option X)) (k : ℕ) (x : X) → slice_get places k ≡ Some (Some x) → at places k ≡ Some x
some-at places k x e = ap (λ y. unwrap_or y None) e

-- a list with an item put where it stands
pub set-same : {X : Type 0} (xs : List X) (k : ℕ) (x : X) → slice_get xs k ≡ Some x → set xs k x ≡ xs
set-same xs k x e = ap (set xs k) (sym (get_or_from_slice_get xs k x x e)) ∙ set-get_or xs k x

-- what is under a number, as the code reads it
pub at_read : {X : Type 0} (places : List (Option X)) (k : ℕ) (place : Option X) (x : X) → k < length places → place ≡ get_or places k place → place ≡ Some x → at places k ≡ Some x
at_read places k place x below reads is = some-at places k x (slice_get_read places (length places) k place refl below reads ∙ ap Some is)

pub same_some : {X : Type 0} (x y : X) → Some x ≡ Some y → x ≡ y
same_some x y e = cc
