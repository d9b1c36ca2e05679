-- Trimming a field, byte by byte.
use Rattle.table_rows.proofs.Words.{◌≡◌, ◌<◌, ◌+◌, ◌∷◌, ℕ, List, [], true, false, length, take, drop, get_or, refl, drop_more, take_more}
use Rattle.table_rows.proofs.Words.{reverse-append, reverse-reverse, field_at, is_blank, without_front}
use Rattle.std.specs.Prelude.{reverse, slice_get, zero, suc}

pub front-blank : (xs : List ℕ) (i : ℕ) → i < length xs → is_blank (get_or xs i 0) ≡ true → without_front (drop i xs) ≡ without_front (drop (i + 1) xs)
unfolding without_front
front-blank xs i lt w = rw (drop_more xs i 0 lt, w) refl

pub front-plain : (xs : List ℕ) (i : ℕ) → i < length xs → is_blank (get_or xs i 0) ≡ false → without_front (drop i xs) ≡ drop i xs
unfolding without_front
front-plain xs i lt w = rw (drop_more xs i 0 lt, w) refl

pub front-none : without_front [] ≡ []
unfolding without_front
front-none = refl

pub back-blank : (xs : List ℕ) (n m : ℕ) → n ≡ m + 1 → m < length xs → is_blank (get_or xs m 0) ≡ true
    → without_front (reverse (take n xs)) ≡ without_front (reverse (take m xs))
unfolding without_front
back-blank xs n m e lt w = rw (e, take_more xs m 0 lt, reverse-append (take m xs) (get_or xs m 0 ∷ []), w) refl

pub back-plain : (xs : List ℕ) (n m : ℕ) → n ≡ m + 1 → m < length xs → is_blank (get_or xs m 0) ≡ false
    → reverse (without_front (reverse (take n xs))) ≡ take n xs
unfolding without_front
back-plain xs n m e lt w =
    let here : without_front (reverse (take n xs)) ≡ reverse (take n xs) = rw (e, take_more xs m 0 lt, reverse-append (take m xs) (get_or xs m 0 ∷ []), w) refl in
    rw here (reverse-reverse (take n xs))

pub field_at-slice_get : (xs : List (List ℕ)) (i : ℕ) → field_at xs i ≡ slice_get xs i
unfolding field_at
field_at-slice_get [] i = refl
field_at-slice_get (x ∷ xs) zero = refl
field_at-slice_get (x ∷ xs) (suc i) = field_at-slice_get xs i
