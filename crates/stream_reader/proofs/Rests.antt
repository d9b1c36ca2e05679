-- What comes after a field.
use Rattle.stream_reader.proofs.Words.{◌≡◌, ◌+◌, ◌<◌, ◌≤◌, ◌==◌, ◌∷◌, ℕ, suc, Bool, true, false, List, [], Option, Some, None, length, drop, refl, ap}
use Rattle.stream_reader.proofs.Words.{arith, add-one, if◌then◌else◌, cond, onto_first, fields_of, after_field, first_field}

after-drop : (t : List ℕ) → length (first_field t) < length t → after_field t ≡ Some (drop (suc (length (first_field t))) t)
unfolding after_field first_field
after-drop [] h = absurd (omega arith)
after-drop (b ∷ t) h = go (b == 32) h (after-drop t)
  where
    go : (x : Bool) → length (cond x [] (b ∷ first_field t)) < length (b ∷ t) → (length (first_field t) < length t → after_field t ≡ Some (drop (suc (length (first_field t))) t))
        → (if x then Some t else after_field t) ≡ Some (drop (suc (length (cond x [] (b ∷ first_field t)))) (b ∷ t))
    go true h more = refl
    go false h more = more (omega arith)

after-end : (t : List ℕ) → length t ≤ length (first_field t) → after_field t ≡ None
unfolding after_field first_field
after-end [] h = refl
after-end (b ∷ t) h = go (b == 32) h (after-end t)
  where
    go : (x : Bool) → length (b ∷ t) ≤ length (cond x [] (b ∷ first_field t)) → (length t ≤ length (first_field t) → after_field t ≡ None) → (if x then Some t else after_field t) ≡ None
    go true h more = absurd (omega arith)
    go false h more = more (omega arith)

pub after_more : (t : List ℕ) (n : ℕ) → n ≡ length (first_field t) → n < length t → after_field t ≡ Some (drop (n + 1) t)
after_more t n e h = rw (add-one, e) (after-drop t (rw (← e) h))

pub after_none : (t : List ℕ) (n : ℕ) → n ≡ length (first_field t) → length t ≤ n → after_field t ≡ None
after_none t n e h = after-end t (rw (← e) h)

-- ---- all fields

unfoldable pub fields_after : Option (List ℕ) → List (List ℕ)
fields_after None = []
fields_after (Some t) = fields_of t

-- the fields of a text are its first field and those after it
pub fields-first : (t : List ℕ) → fields_of t ≡ first_field t ∷ fields_after (after_field t)
unfolding first_field after_field fields_after
fields-first [] = refl
fields-first (b ∷ t) = go (b == 32) (fields-first t)
  where
    go : (x : Bool) → fields_of t ≡ first_field t ∷ fields_after (after_field t)
        → cond x ([] ∷ fields_of t) (onto_first b (fields_of t)) ≡ cond x [] (b ∷ first_field t) ∷ fields_after (if x then Some t else after_field t)
    go true e = refl
    go false e = ap (onto_first b) e
