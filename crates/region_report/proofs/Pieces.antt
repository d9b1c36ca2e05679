-- Texts that grow at their end, and lists that are worked item by item.
use Rattle.std.proofs.Common.{◌≡◌, ◌∙◌, ◌<◌, ◌≤◌, ◌+◌, ◌∷◌, ℕ, zero, suc, List, [], length, drop, map, sym, ap, arith, get_or, slice_index_or}
use Rattle.region_report.proofs.Words.{drop_all, drop_more, fold}

-- a fold goes on after one item more
pub fold_on : {X Y A : Type 0} (view : X → Y) (f : A → Y → A) (xs : List X) (i : ℕ) (x : X) (now next all : A) → i < length xs → x ≡ get_or xs i x → next ≡ f now (view x) →
    fold f now (map view (drop i xs)) ≡ all → fold f next (map view (drop (i + 1) xs)) ≡ all
fold_on view f xs i x now next all small is step so_far =
    let here : drop i xs ≡ x ∷ drop (i + 1) xs = drop_more xs i x small ∙ ap (λ y. y ∷ drop (i + 1) xs) (sym is) in
    let e = rw here at so_far in
    rw step e

pub fold_end : {X Y A : Type 0} (view : X → Y) (f : A → Y → A) (xs : List X) (i : ℕ) (now all : A) → length xs ≤ i → fold f now (map view (drop i xs)) ≡ all → now ≡ all
fold_end view f xs i now all past so_far =
    let none : drop i xs ≡ [] = drop_all i xs past in
    let e = rw none at so_far in e

-- where an item stands
pub at_place : {X Y : Type 0} (view : X → Y) (xs : List X) (i : ℕ) (x : X) (d : Y) → i < length xs → x ≡ get_or xs i x → slice_index_or (map view xs) i d ≡ view x
at_place view [] i x d small is = absurd (omega arith)
at_place view (y ∷ ys) zero x d small is = ap view (sym is)
at_place view (y ∷ ys) (suc i) x d small is = at_place view ys i x d (omega arith) is
