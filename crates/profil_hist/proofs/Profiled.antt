-- The text of a histogram, range by range and bucket by bucket.
use Rattle.profil_hist.proofs.Words.{◌≡◌, ◌∙◌, ◌<◌, ◌+◌, ◌∷◌, ◌++◌, ℕ, zero, suc, List, [], Option, Some, None, Result, Ok, Err, IfOk, length}
use Rattle.profil_hist.proofs.Words.{slice_get, unwrap_or, flat_map, range_with_len, Text, HistText, IsHistogram, count_or_none}
use Rattle.profil_hist.proofs.Words.{hist_lines, hits_or_none, lines_at, profile_text, range_lines, RangeText, in_bucket, in_range}
use Rattle.std.proofs.Common.{ap, ap₂, refl, arith, option_map, count_by, lt-ltb}

-- there is a range in each place below their number
pub is_there : {X Y : Type 0} (view : Y → X) (found : Option Y) (xs : List X) (k : ℕ) → option_map view found ≡ slice_get xs k → ((y : Y) → found ≡ Some y → ⊥) → k < length xs → ⊥
is_there view (Some y) xs k e none small = none y refl
is_there view None [] k e none small = absurd (omega arith)
is_there view None (x ∷ xs) zero e none small = absurd cc
is_there view None (x ∷ xs) (suc k) e none small = is_there view None xs k e none (omega arith)

-- ---- what is counted

same_lines : (f g : ℕ → Text) (a n : ℕ) → ((i : ℕ) → i < a + n → f i ≡ g i) → flat_map f (range_with_len a n) ≡ flat_map g (range_with_len a n)
same_lines f g a zero h = refl
same_lines f g a (suc n) h = ap₂ (λ (t u : Text). t ++ u) (h a (omega arith)) (same_lines f g (a + 1) n (λ i small. h i (omega arith)))

by_place : {X : Type 0} (xs : List X) (f : ℕ → Text) (g : X → Text) (a : ℕ) → ((k : ℕ) (x : X) → slice_get xs k ≡ Some x → f (a + k) ≡ g x) → flat_map f (range_with_len a (length xs)) ≡ flat_map g xs
by_place [] f g a h = refl
by_place (x ∷ xs) f g a h =
    let first : f a ≡ g x = ap f (let e : a ≡ a + 0 = omega arith in e) ∙ h 0 x refl in
    let rest = by_place xs f g (a + 1) (λ k y e. ap f (let s : a + 1 + k ≡ a + suc k = omega arith in s) ∙ h (suc k) y e) in
    ap₂ (λ (t u : Text). t ++ u) first rest

hits_are : (h : HistText) (pcs : List ℕ) (k : ℕ) (r : RangeText) → IsHistogram h pcs → slice_get h.map k ≡ Some r → hits_or_none h k ≡ count_by (in_range r) pcs
hits_are h pcs k r is there = let e = is.hits k in let s = rw there at e in ap (λ o. unwrap_or o 0) s

counts_are : (h : HistText) (pcs : List ℕ) (k : ℕ) (r : RangeText) (i : ℕ) → IsHistogram h pcs → slice_get h.map k ≡ Some r → i < r.buckets → count_or_none h k i ≡ count_by (in_bucket r i) pcs
counts_are h pcs k r i is there small = let e = is.buckets k i in let s = rw (there, lt-ltb i r.buckets small) at e in ap (λ o. unwrap_or o 0) s

lines_are : (h : HistText) (pcs : List ℕ) (k : ℕ) (r : RangeText) → IsHistogram h pcs → slice_get h.map k ≡ Some r →
    lines_at h k ≡ range_lines r (count_by (in_range r) pcs) (λ i. count_by (in_bucket r i) pcs)
lines_are h pcs k r is there = grind (arith, hits_are, same_lines, counts_are)

-- what a histogram has is the text of what it counts
pub profiled : (h : HistText) (pcs : List ℕ) → IsHistogram h pcs → hist_lines h ≡ profile_text h.map pcs
unfolding profile_text
profiled h pcs is = grind (arith, by_place, lines_are)

pub profiled_text : {A : Type 0} (view : A → Text) {E : Type 0} (h : HistText) (pcs : List ℕ) (answer : Result A E) → IsHistogram h pcs
    → IfOk answer (λ a. view a ≡ hist_lines h) → IfOk answer (λ a. view a ≡ profile_text h.map pcs)
profiled_text view h pcs (Ok a) is e = e ∙ profiled h pcs is
profiled_text view h pcs (Err error) is e = tt
