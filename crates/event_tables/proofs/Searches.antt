-- Searches of rows by a test of what callers see of them.
use Rattle.event_tables.proofs.Words.{◌≡◌, ◌+◌, ◌<◌, ◌∷◌, ℕ, List, [], Option, Some, Bool, true, false, map, length, refl, ap, arith, ◌&&◌, ◌||◌}
use Rattle.event_tables.proofs.Words.{◌==◌, not, if◌then◌else◌, filter, list_all, list_any, position_from, slice_split, Text, is_empty, given}
use Rattle.event_tables.proofs.Words.{words_of}

pub position_from-map : {X Y : Type 0} (p : Y → Bool) (h : X → Y) (i : ℕ) (xs : List X) → position_from (λ x. p (h x)) i xs ≡ position_from p i (map h xs)
position_from-map p h i [] = refl
position_from-map p h i (x ∷ xs) = ap (λ (o : Option ℕ). if p (h x) then Some i else o) (position_from-map p h (i + 1) xs)

-- some item passes if the filtered list has one
filled : {X : Type 0} (p : X → Bool) (xs : List X) → list_any p xs ≡ not (is_empty (filter p xs))
filled p [] = refl
filled p (x ∷ xs) = go (p x) (filled p xs)
  where
    go : (b : Bool) → list_any p xs ≡ not (is_empty (filter p xs)) → (b || list_any p xs) ≡ not (is_empty (if b then x ∷ filter p xs else filter p xs))
    go true h = refl
    go false h = h

pub has_word-filled : (t : Text) → list_any (λ w. not (is_empty w)) (slice_split (λ b. b == 32) t) ≡ not (is_empty (words_of t))
unfolding words_of
has_word-filled t = filled (λ w. not (is_empty w)) (slice_split (λ b. b == 32) t)

-- each item of the filtered list passes if each item passes or is left out
pub all-filled : {X : Type 0} (empty p : X → Bool) (xs : List X) → list_all (λ x. empty x || p x) xs ≡ list_all p (filter (λ x. not (empty x)) xs)
all-filled empty p [] = refl
all-filled empty p (x ∷ xs) = go (empty x) (all-filled empty p xs)
  where
    go : (b : Bool) → list_all (λ x. empty x || p x) xs ≡ list_all p (filter (λ x. not (empty x)) xs)
        → ((b || p x) && list_all (λ x. empty x || p x) xs) ≡ list_all p (if not b then x ∷ filter (λ x. not (empty x)) xs else filter (λ x. not (empty x)) xs)
    go true h = h
    go false h = ap (λ t. p x && t) h

-- what is found is in the list
pub position_from-lt : {X : Type 0} (p : X → Bool) (i : ℕ) (xs : List X) (k : ℕ) → position_from p i xs ≡ Some k → k < i + length xs
position_from-lt p i [] k e = cc e
position_from-lt p i (x ∷ xs) k e =
    given (λ j. j < i + length (x ∷ xs)) (p x) i (position_from p (i + 1) xs) e (λ b. omega arith) (λ q. let lt = position_from-lt p (i + 1) xs k q in omega (arith, lt))
