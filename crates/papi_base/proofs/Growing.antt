-- Texts that grow at their end, as loops push to them.
use Rattle.std.proofs.Common.{◌≡◌, ◌∙◌, ◌+◌, ◌∷◌, ◌++◌, ℕ, List, [], Some, slice_get, take, sym, ap, arith, append_assoc}
use Rattle.std.proofs.lemmas.List.{flat_map_more, map-id}
use Rattle.std.proofs.lemmas.List.FromFn.{map-range_with_len_more}
use Rattle.std.specs.List.{flat_map, range_with_len}
use Rattle.papi_base.proofs.Steps.{take_at}

-- two pieces one after the other
pub both : (start middle after x y : List ℕ) → middle ≡ start ++ x → after ≡ middle ++ y → after ≡ start ++ (x ++ y)
both start middle after x y first second = second ∙ ap (λ (t : List ℕ). t ++ y) first ∙ append_assoc start x y

pub range_more : (k : ℕ) → range_with_len 0 (k + 1) ≡ range_with_len 0 k ++ k ∷ []
range_more k =
    sym (map-id (range_with_len 0 (k + 1))) ∙ map-range_with_len_more (λ x. x) 0 k k (omega arith)
    ∙ ap (λ (ks : List ℕ). ks ++ k ∷ []) (map-id (range_with_len 0 k))

-- the text of one number more
pub number_more : (f : ℕ → List ℕ) (start now after : List ℕ) (i : ℕ) → now ≡ start ++ flat_map f (range_with_len 0 i) → after ≡ now ++ f i → after ≡ start ++ flat_map f (range_with_len 0 (i + 1))
number_more f start now after i so_far more =
    more ∙ ap (λ (t : List ℕ). t ++ f i) so_far ∙ flat_map_more f start (range_with_len 0 i) i ∙ ap (λ (ks : List ℕ). start ++ flat_map f ks) (sym (range_more i))

-- the texts of all numbers
pub numbers_all : (f : ℕ → List ℕ) (start after : List ℕ) (i n : ℕ) → i ≡ n → after ≡ start ++ flat_map f (range_with_len 0 i) → after ≡ start ++ flat_map f (range_with_len 0 n)
numbers_all f start after i n e so_far = so_far ∙ ap (λ k. start ++ flat_map f (range_with_len 0 k)) e

-- the text of one item more
pub item_more : {X : Type 0} (f : X → List ℕ) (xs : List X) (i : ℕ) (x : X) (start now after : List ℕ) → slice_get xs i ≡ Some x →
    now ≡ start ++ flat_map f (take i xs) → after ≡ now ++ f x → after ≡ start ++ flat_map f (take (i + 1) xs)
item_more f xs i x start now after there so_far more =
    more ∙ ap (λ (t : List ℕ). t ++ f x) so_far ∙ flat_map_more f start (take i xs) x ∙ ap (λ ys. start ++ flat_map f ys) (sym (take_at xs i x there))
