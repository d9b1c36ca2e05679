-- A list that is cut at its first item of a kind.
use Rattle.table_rows.proofs.Words.{◌≡◌, ◌∙◌, ◌+◌, ◌-◌, ◌∷◌, ℕ, Bool, true, false, List, [], None, Some, cond, length, take, drop, refl, ap, arith}
use Rattle.table_rows.proofs.Words.{length-drop, nat_lt, not, position, onto_first, position_or_len, slice_split, ltb-true, ltb-false, lt-ltb, le-ltb}
use Rattle.table_rows.proofs.Words.{take_all, slice_split_first}

pub split-cut : {X : Type 0} (p : X → Bool) (xs : List X) (d : X) (n : ℕ) → position p xs ≡ Some n → slice_split p xs ≡ take n xs ∷ slice_split p (drop (n + 1) xs)
split-cut p xs d n h = go (nat_lt (position_or_len p xs) (length xs)) refl h
  where
    go : (b : Bool) → nat_lt (position_or_len p xs) (length xs) ≡ b → cond b (Some (position_or_len p xs)) None ≡ Some n → slice_split p xs ≡ take n xs ∷ slice_split p (drop (n + 1) xs)
    go true e s =
        let at : position_or_len p xs ≡ n = cc s in
        slice_split_first p xs d (ltb-true _ _ e) ∙ ap (λ (k : ℕ). take k xs ∷ slice_split p (drop (k + 1) xs)) at
    go false e s = cc s

one-part : {X : Type 0} (p : X → Bool) (xs : List X) → nat_lt (position_or_len p xs) (length xs) ≡ false → slice_split p xs ≡ xs ∷ []
one-part p [] h = refl
one-part p (x ∷ xs) h = go (p x) (λ rest. one-part p xs rest) h
  where
    go : (c : Bool) → (nat_lt (position_or_len p xs) (length xs) ≡ false → slice_split p xs ≡ xs ∷ [])
        → nat_lt (cond (not c) (1 + position_or_len p xs) 0) (length (x ∷ xs)) ≡ false
        → cond c ([] ∷ slice_split p xs) (onto_first x (slice_split p xs)) ≡ (x ∷ xs) ∷ []
    go true here h = let some : nat_lt 0 (length (x ∷ xs)) ≡ true = lt-ltb 0 _ (omega arith) in cc
    go false here h = ap (onto_first x) (here (le-ltb _ _ (omega (arith, ltb-false _ _ h))))

pub split-none : {X : Type 0} (p : X → Bool) (xs : List X) → position p xs ≡ None → slice_split p xs ≡ xs ∷ []
split-none p xs h = go (nat_lt (position_or_len p xs) (length xs)) refl h
  where
    go : (b : Bool) → nat_lt (position_or_len p xs) (length xs) ≡ b → cond b (Some (position_or_len p xs)) None ≡ None → slice_split p xs ≡ xs ∷ []
    go true e s = cc s
    go false e s = one-part p xs e

-- what is after the first items, as a slice to the end gives it
pub rest-whole : {X : Type 0} (xs : List X) (n : ℕ) → take (length xs - n) (drop n xs) ≡ drop n xs
rest-whole xs n = take_all _ _ (omega (arith, length-drop n xs))
