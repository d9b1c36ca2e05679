-- Jobs that are made from the end.
use Rattle.thread_registry.proofs.Words.{◌≡◌, ℕ, ◌+◌, ◌<◌, ◌≤◌, zero, suc, List, [], ◌∷◌, ◌++◌, length, map, reverse, drop, get_or, refl, sym, ◌∙◌}
use Rattle.thread_registry.proofs.Words.{ap, ap₂, arith, Some, slice_get, reverse-append, drop_all, drop_more, Note, Widths, Call, ReaderView}
use Rattle.thread_registry.proofs.Words.{JobView, Work, before, befores_from, AreWorks, IsWork}
use Rattle.thread_registry.proofs.Lists.{map-push}

pub before-at : (k : ℕ) (shape : Widths) (rs : List ReaderView) (nss : List (List Note)) (css : List (List Call)) (t : ℕ) (d : JobView) (r : ReaderView) → t < length rs → length nss ≡ length rs → length css ≡ length rs
    → get_or (befores_from k shape rs nss css) t d ≡ before shape (k + t) (get_or rs t r) (get_or nss t []) (get_or css t [])
before-at k shape [] nss css t d r h e f = absurd (omega (arith, h))
before-at k shape (x ∷ rs) [] css t d r h e f = absurd (omega (arith, e))
before-at k shape (x ∷ rs) (ns ∷ nss) [] t d r h e f = absurd (omega (arith, f))
before-at k shape (x ∷ rs) (ns ∷ nss) (cs ∷ css) zero d r h e f = ap (λ n. before shape n x ns cs) (let q : k ≡ k + 0 = omega arith in q)
before-at k shape (x ∷ rs) (ns ∷ nss) (cs ∷ css) (suc t) d r h e f =
    before-at (k + 1) shape rs nss css t d r (omega (arith, h)) (omega (arith, e)) (omega (arith, f))
    ∙ ap (λ n. before shape n (get_or rs t r) (get_or nss t []) (get_or css t [])) (let q : k + 1 + t ≡ k + suc t = omega arith in q)

pub befores-length : (k : ℕ) (shape : Widths) (rs : List ReaderView) (nss : List (List Note)) (css : List (List Call)) → length nss ≡ length rs → length css ≡ length rs → length (befores_from k shape rs nss css) ≡ length rs
befores-length k shape [] nss css e f = refl
befores-length k shape (r ∷ rs) [] css e f = absurd (omega (arith, e))
befores-length k shape (r ∷ rs) (ns ∷ nss) [] e f = absurd (omega (arith, f))
befores-length k shape (r ∷ rs) (ns ∷ nss) (cs ∷ css) e f = let h = befores-length (k + 1) shape rs nss css (omega (arith, e)) (omega (arith, f)) in omega (arith, h)

pub befores-few : (k : ℕ) (shape : Widths) (rs : List ReaderView) (nss : List (List Note)) (css : List (List Call)) → length (befores_from k shape rs nss css) ≤ length rs
befores-few k shape [] nss css = omega arith
befores-few k shape (r ∷ rs) [] css = omega arith
befores-few k shape (r ∷ rs) (ns ∷ nss) [] = omega arith
befores-few k shape (r ∷ rs) (ns ∷ nss) (cs ∷ css) = let h = befores-few (k + 1) shape rs nss css in omega (arith, h)

-- the thread at a place, and those after it
pub before-drop : (shape : Widths) (rs : List ReaderView) (nss : List (List Note)) (css : List (List Call)) (n m : ℕ) (r : ReaderView) (ns : List Note) (cs : List Call)
    → n < length rs → length nss ≡ length rs → length css ≡ length rs → m ≡ n + 1 → get_or rs n r ≡ r → get_or nss n [] ≡ ns → get_or css n [] ≡ cs
    → drop n (befores_from 0 shape rs nss css) ≡ before shape n r ns cs ∷ drop m (befores_from 0 shape rs nss css)
before-drop shape rs nss css n m r ns cs h e f is a b c =
    let xs = befores_from 0 shape rs nss css in
    let x = before shape n r ns cs in
    let there : get_or xs n x ≡ x =
    before-at 0 shape rs nss css n x r h e f
    ∙ (ap₂ (λ t u. before shape t u (get_or nss n []) (get_or css n [])) (let q : 0 + n ≡ n = omega arith in q) a
    ∙ ap₂ (λ u v. before shape n r u v) b c) in
    drop_more xs n x (omega (arith, h, befores-length 0 shape rs nss css e f)) ∙ ap₂ (λ u k. u ∷ drop k xs) there (sym is)

-- no job is made yet
pub none-yet : {J : Type 0} (F : J → JobView) (js : List J) (xs : List JobView) (n : ℕ) → length js ≡ 0 → length xs ≤ n → map F js ≡ reverse (drop n xs)
none-yet F [] xs n e h = sym (ap reverse (drop_all n xs h))
none-yet F (j ∷ js) xs n e h = absurd (omega (arith, e))

-- one thread's job more
pub jobs-more : {J : Type 0} (F : J → JobView) (js js' : List J) (j : J) (xs : List JobView) (x : JobView) (m n : ℕ)
    → map F js ≡ reverse (drop m xs) → js' ≡ js ++ j ∷ [] → F j ≡ x → drop n xs ≡ x ∷ drop m xs → map F js' ≡ reverse (drop n xs)
jobs-more F js js' j xs x m n e p is d =
    map-push F js js' j p
    ∙ (ap₂ (λ u v. u ++ v ∷ []) e is
    ∙ (sym (reverse-append (x ∷ []) (drop m xs)) ∙ ap reverse (sym d)))

-- the work of a thread
pub work-found : (shape : Widths) (works : List Work) (t : ℕ) (w : Work) (rest : List Work) → AreWorks shape works → drop t works ≡ w ∷ rest → IsWork shape t w
work-found shape works t w rest all e = all.each t w (at-drop works t e) where
  at-drop : (ws : List Work) (n : ℕ) → drop n ws ≡ w ∷ rest → slice_get ws n ≡ Some w
  at-drop [] zero e = absurd (cc)
  at-drop [] (suc n) e = absurd (cc)
  at-drop (v ∷ ws) zero e = let same : v ≡ w = cc in ap (λ u. Some u) same
  at-drop (v ∷ ws) (suc n) e = at-drop ws n e
