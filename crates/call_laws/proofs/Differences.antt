-- The wrapped difference of the values up to two positions is the value between them.
use Rattle.call_laws.proofs.Words.{◌≡◌, ◌+◌, ◌-◌, ◌≤◌, ℕ, pos, ◌-ℤ◌, List, [], ◌∷◌, map, drop, take, sum, All, FitsSigned, refl, ◌∙◌, ap, ap₂, arith}
use Rattle.call_laws.proofs.Words.{int_wrap, int_wrapping_sub, w64, take-add, ints, wrapping_sub_is, All-head, All-tail, sum_by-append, EventRef}
use Rattle.call_laws.proofs.Words.{Native, Occ, Book, difference, pairwise, count_between, value_at, value_between, weights}
use Rattle.papi_base.specs.declared.native.EventRef.TheVariants as event

-- a count up to q is that up to p and that from there on
pub count_split : (tape : List Occ) (p q : ℕ) (n : Native) → p ≤ q → count_between tape 0 q n ≡ count_between tape 0 p n + count_between tape p q n
count_split tape p q n h =
    let ws : List ℕ = weights tape n in
    ap (λ k. sum (take k ws)) (let e : q - 0 ≡ p + (q - p) = omega (arith, h) in e)
    ∙ ap sum (take-add p (q - p) ws)
    ∙ sum_by-append (λ w. w) (take p ws) (take (q - p) (drop p ws))
    ∙ ap (λ k. sum (take k ws) + count_between tape p q n) (let e : p ≡ p - 0 = omega arith in e)

pub value_difference : (book : Book) (tape : List Occ) (p q : ℕ) → p ≤ q → (e : EventRef) → FitsSigned w64 (value_at book tape q e) → FitsSigned w64 (value_at book tape p e)
    → int_wrapping_sub w64 (value_at book tape q e) (value_at book tape p e) ≡ value_between book tape p q e
value_difference book tape p q h (event.Native n) f g =
    let split = count_split tape p q n h in
    wrapping_sub_is w64 (pos (count_between tape 0 q n)) (pos (count_between tape 0 p n)) f g
    ∙ ap (int_wrap w64) (let e : pos (count_between tape 0 q n) -ℤ pos (count_between tape 0 p n) ≡ pos (count_between tape p q n) = omega (arith, ints, split) in e)
value_difference book tape p q h (event.Preset row) f g = wrapping_sub_is w64 (value_at book tape q (event.Preset row)) (value_at book tape p (event.Preset row)) f g

-- the same of all events
pub values_difference : (book : Book) (tape : List Occ) (p q : ℕ) → p ≤ q → (es : List EventRef) → All (FitsSigned w64) (map (value_at book tape q) es) → All (FitsSigned w64) (map (value_at book tape p) es)
    → difference (map (value_at book tape q) es) (map (value_at book tape p) es) ≡ map (value_between book tape p q) es
unfolding pairwise
values_difference book tape p q h [] fits gits = refl
values_difference book tape p q h (e ∷ es) fits gits =
    ap₂ (λ v vs. v ∷ vs)
    (value_difference book tape p q h e
    (All-head (FitsSigned w64) (value_at book tape q e) (map (value_at book tape q) es) fits)
    (All-head (FitsSigned w64) (value_at book tape p e) (map (value_at book tape p) es) gits))
    (values_difference book tape p q h es
    (All-tail (FitsSigned w64) (value_at book tape q e) (map (value_at book tape q) es) fits)
    (All-tail (FitsSigned w64) (value_at book tape p e) (map (value_at book tape p) es) gits))
