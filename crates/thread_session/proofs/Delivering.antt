-- Notes handed on one after another.
use Rattle.thread_session.proofs.Words.{◌≡◌, ℕ, zero, suc, ◌+◌, ◌<◌, List, [], ◌∷◌, ◌++◌, length, map, take, drop, get_or, refl, ap, sym, ◌∙◌, arith}
use Rattle.thread_session.proofs.Words.{append_assoc, slice_get, ⊤, Err, OnErr, Ok, Result, unwrap_or, length-map, take_more, drop-drop}
use Rattle.thread_session.proofs.Words.{unwrap_or-slice_get, Occ, PartAdded, Note, note}

get_or-noted : (thread set : ℕ) (o : Occ) (passed : List ℕ) (i : ℕ) → i < length passed → get_or (map (note thread set o) passed) i (note thread set o 0) ≡ note thread set o (get_or passed i 0)
get_or-noted thread set o [] i less = absurd (omega (arith, less))
get_or-noted thread set o (x ∷ xs) zero less = refl
get_or-noted thread set o (x ∷ xs) (suc i) less = get_or-noted thread set o xs i (omega (arith, less))

pub one_note : (before now then : List Note) (thread set index : ℕ) (o : Occ) (passed : List ℕ) (i : ℕ) → i < length passed → index ≡ unwrap_or (slice_get passed i) 0
    → now ≡ before ++ take i (map (note thread set o) passed) → then ≡ now ++ note thread set o index ∷ [] → then ≡ before ++ take (i + 1) (map (note thread set o) passed)
one_note before now then thread set index o passed i less is h e =
    e ∙ ap (λ (xs : List Note). xs ++ note thread set o index ∷ []) h
    ∙ append_assoc before (take i (map (note thread set o) passed)) (note thread set o index ∷ [])
    ∙ ap (λ (x : Note). before ++ (take i (map (note thread set o) passed) ++ x ∷ [])) (ap (note thread set o) (is ∙ unwrap_or-slice_get passed i 0) ∙ sym (get_or-noted thread set o passed i less))
    ∙ ap (λ (xs : List Note). before ++ xs) (sym (take_more (map (note thread set o) passed) i (note thread set o 0) (omega (arith, less, length-map passed (note thread set o)))))

first_of_rest : (xs : List ℕ) (i : ℕ) → slice_get (drop i xs) 0 ≡ slice_get xs i
first_of_rest [] zero = refl
first_of_rest [] (suc i) = refl
first_of_rest (x ∷ xs) zero = refl
first_of_rest (x ∷ xs) (suc i) = first_of_rest xs i

-- the first of those that are left, and then one fewer
pub next_left : (xs left : List ℕ) (i : ℕ) → left ≡ drop i xs → slice_get left 0 ≡ slice_get xs i
next_left xs left i e = ap (λ (l : List ℕ). slice_get l 0) e ∙ first_of_rest xs i

pub fewer_left : (xs left : List ℕ) (i : ℕ) → left ≡ drop i xs → drop 1 left ≡ drop (i + 1) xs
fewer_left xs left i e = ap (λ (l : List ℕ). drop 1 l) e ∙ drop-drop 1 i xs

-- a note was refused after some were taken
pub cut_off : {E : Type 0} (result : Result ⊤ E) (before now then : List Note) (thread set : ℕ) (o : Occ) (passed : List ℕ) (i : ℕ) → i < length passed
    → now ≡ before ++ take i (map (note thread set o) passed) → then ≡ now → OnErr result (PartAdded before (map (note thread set o) passed) then)
cut_off (Ok x) before now then thread set o passed i less h e = tt
cut_off (Err x) before now then thread set o passed i less h e = (i, omega (arith, less, length-map passed (note thread set o)), e ∙ h)
