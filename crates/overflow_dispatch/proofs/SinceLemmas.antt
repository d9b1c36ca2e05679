-- Lists from a place on, one place more at a time.
use Rattle.std.proofs.Common.{◌≡◌, ◌≤◌, ◌+◌, ℕ, zero, suc, List, [], ◌∷◌, ◌++◌, length, drop, map, refl, ap, sym, subst, ◌∙◌, arith, append_assoc, Some, None, slice_get}
use Rattle.std.proofs.Math.Seq.{drop-append_seam}
use Rattle.std.proofs.lemmas.Option.{slice_get-map}
use Rattle.std.specs.Option.{option_map}
use Rattle.std.proofs.lemmas.List.{drop_all}
use Rattle.overflow_dispatch.specs.declared.handler.Note.{Note}
use Rattle.overflow_dispatch.specs.Notes.{AddedIsTold, EachAdded, told_since}
use Rattle.overflow_dispatch.proofs.Passes.{drop_at}

none_past : {X : Type 0} (xs : List X) (i : ℕ) → slice_get xs i ≡ None → length xs ≤ i
none_past [] i e = omega arith
none_past (x ∷ xs) zero e = absurd cc
none_past (x ∷ xs) (suc i) e = let h = none_past xs i e in omega arith

pub one_more : {X : Type 0} (done told : List X) (i : ℕ) (x : X) → slice_get told i ≡ Some x → (done ++ x ∷ []) ++ drop (i + 1) told ≡ done ++ drop i told
one_more done told i x e =
    let P : ℕ → Type 0 = λ k. (done ++ x ∷ []) ++ drop k told ≡ done ++ drop i told in
    let next : suc i ≡ i + 1 = omega arith in
    subst P next (rw append_assoc (ap (λ xs. done ++ xs) (sym (drop_at told i x e))))

pub none_more : {X : Type 0} (done told : List X) (i : ℕ) → slice_get told i ≡ None → done ++ drop (i + 1) told ≡ done ++ drop i told
none_more done told i e =
    let past = none_past told i e in
    ap (λ xs. done ++ xs) (drop_all (i + 1) told (omega (arith, past)) ∙ sym (drop_all i told past))

pub one_list_more : {X : Type 0} (told : X → List Note) (done all : List Note) (counts : List ℕ) (xs : List X) (i k : ℕ) (x : X) → slice_get counts i ≡ Some k
    → slice_get xs i ≡ Some x → done ++ told_since (drop i counts) (drop i (map told xs)) ≡ all
    → (done ++ drop k (told x)) ++ told_since (drop (i + 1) counts) (drop (i + 1) (map told xs)) ≡ all
one_list_more told done all counts xs i k x e f h =
    let P : ℕ → Type 0 = λ j. (done ++ drop k (told x)) ++ told_since (drop j counts) (drop j (map told xs)) ≡ done ++ told_since (drop i counts) (drop i (map told xs)) in
    let next : suc i ≡ i + 1 = omega arith in
    let at : slice_get (map told xs) i ≡ Some (told x) = slice_get-map told xs i ∙ ap (option_map told) f in
    subst P next (rw (append_assoc, drop_at counts i k e, drop_at (map told xs) i (told x) at) refl) ∙ h

pub added_is_told : AddedIsTold
added_is_told [] [] after same h = refl
added_is_told [] (g ∷ given) after same h = absurd (omega arith)
added_is_told (b ∷ before) [] after same h = absurd (omega arith)
added_is_told (b ∷ before) (g ∷ given) [] same h = absurd (let e = h.same_length in omega arith)
added_is_told (b ∷ before) (g ∷ given) (a ∷ after) same h =
    let first : a ≡ b ++ g = h.added 0 (omega arith) in
    let rest : EachAdded before given after = record { same_length = let e = h.same_length in omega arith; added = λ t small. h.added (suc t) (omega arith) } in
    rw (first, drop-append_seam b g, added_is_told before given after (omega arith) rest) refl
