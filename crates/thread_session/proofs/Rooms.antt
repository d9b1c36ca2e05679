-- Runs into a place of fixed room.
use Rattle.std.proofs.Common.{◌≡◌, ℕ, ◌+◌, ◌<◌, Bool, false, if◌then◌else◌, List, [], ◌∷◌, ◌++◌, length, drop, take, set, ap, sym, ◌∙◌, arith}
use Rattle.std.proofs.lemmas.List.{take_more_set, drop-drop}

-- a run that was not stopped early is of all that were asked for
pub of_all : (full : Bool) (n k : ℕ) → full ≡ false → n ≡ (if full then k else n)
of_all full n k e = sym (ap (λ (b : Bool). if b then k else n) e)

-- one item more at the end of what is written
pub one_place : {X : Type 0} (xs : List X) (at i : ℕ) (x : X) → at + i < length xs → take (at + (i + 1)) (set xs (at + i) x) ≡ take (at + i) xs ++ x ∷ []
one_place xs at i x less =
    let same : at + (i + 1) ≡ at + i + 1 = omega arith in
    ap (λ (k : ℕ). take k (set xs (at + i) x)) same ∙ take_more_set xs (at + i) x less

-- what is after a place stays, if what is after an earlier one does
pub later_rest : {X : Type 0} (xs ys : List X) (k j : ℕ) → drop k xs ≡ drop k ys → drop (k + j) xs ≡ drop (k + j) ys
later_rest {X} xs ys k j e = sym (drop-drop j k xs) ∙ ap (λ (zs : List X). drop j zs) e ∙ drop-drop j k ys
