-- What the jobs left, in the order of the threads.
use Rattle.thread_registry.proofs.Words.{nat_tests, ◌≡◌, ℕ, ◌<◌, Bool, false, List, [], ◌∷◌, ◌++◌, All, length, map, reverse, get_or, refl, sym, ◌∙◌}
use Rattle.thread_registry.proofs.Words.{ap, subst, arith, reverse-append, map-append, get_or-reverse, get_or-map, length-reverse, length-map}
use Rattle.thread_registry.proofs.Words.{reverse-reverse, All-map, Note, Each, Book, Reply, ReaderView, JobView, WorkedOrIdle, Left}

pub map-reverse : {A B : Type 0} (f : A → B) (xs : List A) → map f (reverse xs) ≡ reverse (map f xs)
map-reverse f [] = refl
map-reverse f (x ∷ xs) =
    ap (map f) (reverse-append (x ∷ []) xs)
    ∙ (map-append f (reverse xs) (x ∷ [])
    ∙ (ap (λ u. u ++ f x ∷ []) (map-reverse f xs)
    ∙ sym (reverse-append (f x ∷ []) (map f xs))))

map-both : {A B C : Type 0} (f : A → B) (g : B → C) (xs : List A) → map g (map f xs) ≡ map (λ x. g (f x)) xs
map-both f g [] = refl
map-both f g (x ∷ xs) = ap (λ u. g (f x) ∷ u) (map-both f g xs)

-- what holds of each element holds of it in the list turned round
pub all-reverse : {A : Type 0} (P : A → Type 0) (xs : List A) → All P xs → All P (reverse xs)
all-reverse P xs all = grind (arith, nat_tests, length-reverse, get_or-reverse)

pub each-map : {A B : Type 0} (f : A → B) (R : B → B → Type 0) (xs ys : List A) → Each (λ x y. R (f x) (f y)) xs ys → Each R (map f xs) (map f ys)
each-map f R [] ys e = record { len = length-map ys f ∙ e.len; at = λ k d h. absurd (omega (arith, h)) }
each-map f R (x ∷ xs) ys e =
    record {
      len = length-map ys f ∙ (e.len ∙ sym (length-map (x ∷ xs) f));
      at =
          λ k d h.
          let inside : k < length (x ∷ xs) = omega (arith, h, length-map (x ∷ xs) f) in
          let there : k < length ys = omega (arith, inside, e.len) in
          subst (λ v. R v (get_or (map f ys) k d)) (sym (get_or-map f (x ∷ xs) k x d inside))
          (subst (λ v. R (f (get_or (x ∷ xs) k x)) v) (sym (get_or-map f ys k x d there)) (e.at k x inside));
    }

pub each-reverse : {A : Type 0} (R : A → A → Type 0) (xs ys : List A) → Each R xs ys → Each R (reverse xs) (reverse ys)
each-reverse R xs ys e = grind (arith, nat_tests, length-reverse, get_or-reverse)

-- each job can be worked
pub ready-by : {J : Type 0} (f : J → JobView) (P : JobView → Type 0) (js : List J) (xs : List JobView) → map f js ≡ reverse xs → All P xs → (k : ℕ) (d : J) → k < length js → P (f (get_or js k d))
ready-by f P js xs e all k d h =
    let turned = subst (All P) (sym e) (all-reverse P xs all) in
    subst P (get_or-map f js k d (f d) h) (turned k (f d) (omega (arith, h, length-map js f)))

-- what is seen of the jobs
view-of : {J X : Type 0} (f : J → JobView) (g : JobView → X) (js : List J) (gs : List X) → gs ≡ reverse (map (λ j. g (f j)) js) → gs ≡ map g (reverse (map f js))
view-of f g js gs e = e ∙ sym (map-reverse g (map f js) ∙ ap reverse (map-both f g js))

-- jobs were made, worked and taken apart
pub left-of : {J : Type 0} (f : J → JobView) (book : Book) (refused : Bool) (xs : List JobView) (js js' : List J) (notes : List (List Note)) (readers : List ReaderView) (replies : List (List Reply))
    → map f js ≡ reverse xs → Each (λ x y. WorkedOrIdle book (f x) (f y)) js js'
    → notes ≡ reverse (map (λ j. (f j).notes) js') → readers ≡ reverse (map (λ j. (f j).session.reader) js') → replies ≡ reverse (map (λ j. (f j).replies) js')
    → (refused ≡ false → All (λ j. (f j).starved ≡ false) js')
    → Left book refused xs notes readers replies
left-of f book refused xs js js' notes readers replies e w n r s d =
    let back : reverse (map f js) ≡ xs = ap reverse e ∙ reverse-reverse xs in
    let done = reverse (map f js') in
    record {
      afters = done;
      ran = subst (λ v. Each (WorkedOrIdle book) v done) back (each-reverse (WorkedOrIdle book) (map f js) (map f js') (each-map f (WorkedOrIdle book) js js' w));
      told = view-of f (λ (y : JobView). y.notes) js' notes n;
      back = view-of f (λ (y : JobView). y.session.reader) js' readers r;
      replied = view-of f (λ (y : JobView). y.replies) js' replies s;
      whole = λ z. all-reverse (λ (y : JobView). y.starved ≡ false) (map f js') (All-map (λ (y : JobView). y.starved ≡ false) f js' (d z));
    }
