-- Lists that lose their last element while others gain it, and what holds of all elements.
use Rattle.thread_registry.proofs.Words.{◌≡◌, ◌||◌, Bool, false, true, List, [], ◌∷◌, ◌++◌, All, length, map, reverse, refl, sym, ◌∙◌, ap, subst}
use Rattle.thread_registry.proofs.Words.{arith, append-nil, append_assoc, reverse-append, map-append, All-append, All-push}

pub all-none : {X : Type 0} (P : X → Type 0) → All P []
all-none P = λ k d l. absurd (omega (arith, l))

pub all-cons : {X : Type 0} (P : X → Type 0) (x : X) (xs : List X) → P x → All P xs → All P (x ∷ xs)
all-cons P x xs p all = All-append P (x ∷ []) xs (All-push P [] x (all-none P) p) all

pub all-empty : {X : Type 0} (P : X → Type 0) (xs : List X) → length xs ≡ 0 → All P xs
all-empty P xs e = λ k d l. absurd (omega (arith, e, l))

pub all-more : {X : Type 0} (P : X → Type 0) (xs xs' : List X) (x : X) → xs' ≡ xs ++ x ∷ [] → All P xs → P x → All P xs'
all-more P xs xs' x e all p = subst (All P) (sym e) (All-push P xs x all p)

pub map-push : {A X : Type 0} (G : A → X) (ys ys' : List A) (a : A) → ys' ≡ ys ++ a ∷ [] → map G ys' ≡ map G ys ++ G a ∷ []
map-push G ys ys' a e = ap (map G) e ∙ map-append G ys (a ∷ [])

pub neither : (a b : Bool) → (a || b) ≡ false → (a ≡ false) × (b ≡ false)
neither true b e = absurd (cc)
neither false b e = (refl, e)

-- ---- from the first list, the last one first, to the second

pub no-items : {X : Type 0} (xs : List X) → length xs ≡ 0 → xs ≡ []
no-items [] e = refl
no-items (x ∷ xs) e = absurd (omega (arith, e))

pub put-none : {X : Type 0} (xs whole : List X) → xs ≡ [] → xs ++ whole ≡ whole
put-none xs whole e = ap (λ u. u ++ whole) e

-- one element more
pub put-more : {J X : Type 0} (F : J → X) (xs xs' whole : List X) (js js' : List J) (j : J) → js ≡ js' ++ j ∷ [] → xs' ≡ xs ++ F j ∷ []
    → xs ++ reverse (map F js) ≡ whole → xs' ++ reverse (map F js') ≡ whole
put-more F xs xs' whole js js' j d e old =
    let turned : reverse (map F js) ≡ F j ∷ reverse (map F js') = ap reverse (map-push F js' js j d) ∙ reverse-append (map F js') (F j ∷ []) in
    ap (λ u. u ++ reverse (map F js')) e
    ∙ (append_assoc xs (F j ∷ []) (reverse (map F js'))
    ∙ (ap (λ u. xs ++ u) (sym turned) ∙ old))

-- none is left
pub put-all : {J X : Type 0} (F : J → X) (xs whole : List X) (js : List J) → length js ≡ 0 → xs ++ reverse (map F js) ≡ whole → xs ≡ whole
put-all F xs whole [] e h = sym (append-nil xs) ∙ h
put-all F xs whole (j ∷ js) e h = absurd (omega (arith, e))
