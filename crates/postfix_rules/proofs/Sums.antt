-- Sums that wrap at each step.
use Rattle.postfix_rules.proofs.Words.{◌≡◌, ◌∙◌, ◌+◌, ◌<◌, ◌≤◌, ◌∷◌, [], ℕ, List, ℤ, pos, ◌+ℤ◌, FitsSigned, w64, length, take, drop, ◌-◌, ◌-ℤ◌}
use Rattle.postfix_rules.proofs.Words.{get_or, sym, ap, arith, int_wrap-add_left, int_wrap-sub_right, int_wrap_fits, ints, drop_more, drop_all}
use Rattle.postfix_rules.proofs.Words.{take_all, first_less_others, signed_sum, wrapped}

sum-cons : (x : ℤ) (xs : List ℤ) → signed_sum (x ∷ xs) ≡ x +ℤ signed_sum xs
unfolding signed_sum
sum-cons x xs = omega (arith, ints)

sum-none : signed_sum [] ≡ pos 0
unfolding signed_sum
sum-none = omega (arith, ints)

pub sum-start : (counts : List ℤ) → wrapped (signed_sum counts) ≡ wrapped (pos 0 +ℤ signed_sum counts)
sum-start counts = ap wrapped (omega (arith, ints))

pub sum-more : (counts : List ℤ) (i : ℕ) (sum next d : ℤ) → i < length counts → next ≡ wrapped (sum +ℤ get_or counts i d)
    → wrapped (sum +ℤ signed_sum (drop i counts)) ≡ wrapped (next +ℤ signed_sum (drop (i + 1) counts))
sum-more counts i sum next d lt is =
    let x = get_or counts i d in
    let rest = signed_sum (drop (i + 1) counts) in
    let first : signed_sum (drop i counts) ≡ x +ℤ rest = ap signed_sum (drop_more counts i d lt) ∙ sum-cons x (drop (i + 1) counts) in
    let joined : sum +ℤ (x +ℤ rest) ≡ (sum +ℤ x) +ℤ rest = omega (arith, ints) in
    ap (λ (s : ℤ). wrapped (sum +ℤ s)) first ∙ ap wrapped joined ∙ sym (int_wrap-add_left w64 (sum +ℤ x) rest)
    ∙ ap (λ (s : ℤ). wrapped (s +ℤ rest)) (sym is)

pub sum-end : (counts : List ℤ) (i : ℕ) (sum : ℤ) → length counts ≤ i → FitsSigned w64 sum → wrapped (sum +ℤ signed_sum (drop i counts)) ≡ sum
sum-end counts i sum le fits =
    let none : signed_sum (drop i counts) ≡ pos 0 = ap signed_sum (drop_all i counts le) ∙ sum-none in
    let zero : sum +ℤ pos 0 ≡ sum = omega (arith, ints) in
    ap (λ (s : ℤ). wrapped (sum +ℤ s)) none ∙ ap wrapped zero ∙ int_wrap_fits w64 sum fits

-- the first less the wrapped sum of the others
pub less-others : (counts : List ℤ) (r d : ℤ) → 0 < length counts → r ≡ wrapped (signed_sum (take (length counts - 1) (drop 1 counts))) → wrapped (get_or counts 0 d -ℤ r) ≡ first_less_others counts
less-others [] r d some is = absurd (omega (arith, some))
less-others (x ∷ xs) r d some is =
    let all : take (length (x ∷ xs) - 1) xs ≡ xs = take_all (length (x ∷ xs) - 1) xs (omega arith) in
    ap (λ (s : ℤ). wrapped (x -ℤ s)) (is ∙ ap (λ (ys : List ℤ). wrapped (signed_sum ys)) all) ∙ int_wrap-sub_right w64 x (signed_sum xs)
