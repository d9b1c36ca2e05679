-- Lists that lose their last element, and lists that gain it in turn.
use Rattle.std.proofs.Common.{◌≡◌, ℕ, ◌+◌, ◌<◌, ◌≤◌, List, [], ◌∷◌, ◌++◌, length, map, take, drop, get_or, sym, ◌∙◌, ap, ap₂, arith, length-append}
use Rattle.std.proofs.lemmas.List.{get_or_push, get_or-map, get_or-take, take_at, take-take, length-take-le, drop_more}

-- if the first m have the last one cut off
pub front-cut : {X : Type 0} (xs ys zs : List X) (x : X) (m n : ℕ) → ys ≡ take m xs → ys ≡ zs ++ x ∷ [] → m ≡ n + 1 → m ≤ length xs → zs ≡ take n xs
front-cut xs ys zs x m n e f p h =
    let len : length zs ≡ n = omega (arith, length-append zs (x ∷ []), ap length f, ap length e, length-take-le m xs h) in
    sym (take_at zs (x ∷ []) n len) ∙ (ap (take n) (sym f ∙ e) ∙ take-take n m xs (omega arith))

pub last-cut : {X : Type 0} (xs ys zs : List X) (x : X) (m n : ℕ) → ys ≡ take m xs → ys ≡ zs ++ x ∷ [] → m ≡ n + 1 → m ≤ length xs → (d : X) → get_or xs n d ≡ x
last-cut xs ys zs x m n e f p h d =
    let len : length zs ≡ n = omega (arith, length-append zs (x ∷ []), ap length f, ap length e, length-take-le m xs h) in
    sym (get_or-take m xs n d (omega arith)) ∙ (ap (λ l. get_or l n d) (sym e ∙ f) ∙ get_or_push zs x d n len)

-- what is left after the cut begins with what was cut off
pub drop-cut : {X : Type 0} (xs ys zs : List X) (x : X) (m n : ℕ) → ys ≡ take m xs → ys ≡ zs ++ x ∷ [] → m ≡ n + 1 → m ≤ length xs → drop n xs ≡ x ∷ drop m xs
drop-cut xs ys zs x m n e f p h =
    drop_more xs n x (omega arith) ∙ ap₂ (λ y k. y ∷ drop k xs) (last-cut xs ys zs x m n e f p h x) (omega arith)

-- what is seen of an element
pub map-at : {X Y : Type 0} (f : X → Y) (xs : List X) (n : ℕ) (x : X) (d : Y) → n < length xs → get_or xs n x ≡ x → get_or (map f xs) n d ≡ f x
map-at f xs n x d h e = get_or-map f xs n x d h ∙ ap f e
