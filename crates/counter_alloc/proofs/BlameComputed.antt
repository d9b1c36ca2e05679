-- The blame that is computed is the blame.
use Rattle.counter_alloc.proofs.Words.{◌≡◌, ℕ, zero, suc, ◌+◌, ◌^◌, ◌<◌, ◌≤◌, inl, inr, refl, sym, ap, ap₂, subst, ◌∙◌, arith, List, [], ◌∷◌, length}
use Rattle.counter_alloc.proofs.Words.{take, length-take-le, Bool, true, false, eqb, ltb, bit_and, Some, find, count_ones, unwrap_or, range_with_len}
use Rattle.counter_alloc.proofs.Words.{cases_eq, cases_lt, eq-eqb, ne_eqb, lt-ltb, ltb-true, same_from_bits, bit_at_and, bit_at_ones}
use Rattle.counter_alloc.proofs.Words.{bit_at_ones_above, bit_at-lt, Has, Assignable, Deficient, IsShortestPrefix, counters_of, assigns}
use Rattle.counter_alloc.proofs.Words.{shortest_prefix, deficient_sets, in_each_set, blame_of, AreMasks, ComputesBlame, Blame}
use Rattle.counter_alloc.proofs.Sets.{cases_has}
use Rattle.counter_alloc.proofs.Listed.{In, in_range, in_filter, of_filter, of_listed, assignable_listed}
use Rattle.std.proofs.lemmas.List.{get_or-take}

-- a range has the first number that passes a test
find_range : (p : ℕ → Bool) (a n k : ℕ) → a ≤ k → k < a + n → p k ≡ true → ((m : ℕ) → m < k → p m ≡ false) → find p (range_with_len a n) ≡ Some k
find_range p a zero k low high passes fails = absurd (omega arith)
find_range p a (suc n) k low high passes fails = elim (cases_eq a k) [
  | inl e ↦ let here : p a ≡ true = ap p e ∙ passes in rw here (ap Some e)
  | inr ne ↦ let here : p a ≡ false = fails a (omega arith) in rw here (find_range p (a + 1) n k (omega arith) (omega arith) passes fails)
]

of_range_below : (k a n : ℕ) → In k (range_with_len a n) → k < a + n
of_range_below k a zero h = absurd h
of_range_below k a (suc n) (inl e) = omega arith
of_range_below k a (suc n) (inr h) = let low = of_range_below k (a + 1) n h in omega arith

has_and_both : (a b k : ℕ) → Has a k → Has b k → Has (bit_and a b) k
has_and_both a b k p q = bit_at_and a b k ∙ omega arith

has_and_left : (a b k : ℕ) → Has (bit_and a b) k → Has a k
has_and_left a b k has = let e = bit_at_and a b k in let small = bit_at-lt a k in omega arith

has_and_right : (a b k : ℕ) → Has (bit_and a b) k → Has b k
has_and_right a b k has = let e = bit_at_and a b k in let small = bit_at-lt b k in omega arith

in_each_below : (n : ℕ) (ss : List ℕ) (k : ℕ) → Has (in_each_set n ss) k → k < n
in_each_below n [] k has = elim (cases_lt k n) [ inl lt ↦ lt | inr ge ↦ let none = bit_at_ones_above n k ge in absurd (omega arith) ]
in_each_below n (s ∷ ss) k has = in_each_below n ss k (has_and_right s (in_each_set n ss) k has)

in_each_all : (n : ℕ) (ss : List ℕ) (k s : ℕ) → Has (in_each_set n ss) k → In s ss → Has s k
in_each_all n [] k s has h = absurd h
in_each_all n (t ∷ ss) k s has (inl e) = let P : ℕ → Type 0 = λ set. Has set k in subst P e (has_and_left t (in_each_set n ss) k has)
in_each_all n (t ∷ ss) k s has (inr h) = in_each_all n ss k s (has_and_right t (in_each_set n ss) k has) h

all_in_each : (n : ℕ) (ss : List ℕ) (k : ℕ) → k < n → ((s : ℕ) → In s ss → Has s k) → Has (in_each_set n ss) k
all_in_each n [] k below each = bit_at_ones n k below
all_in_each n (s ∷ ss) k below each = has_and_both s (in_each_set n ss) k (each s (inl refl)) (all_in_each n ss k below (λ t h. each t (inr h)))

in_deficient : (allowed : List ℕ) (s : ℕ) → Deficient allowed s → In s (deficient_sets allowed)
unfolding deficient_sets
in_deficient allowed s deficient =
    let bound = deficient.are_places in
    in_filter (λ t. ltb (count_ones (counters_of allowed t)) (count_ones t)) s (range_with_len 0 (2 ^ length allowed))
    (in_range s 0 (2 ^ length allowed) (omega arith) (omega arith)) (lt-ltb _ _ deficient.short_of_counters)

of_deficient : (allowed : List ℕ) (s : ℕ) → In s (deficient_sets allowed) → Deficient allowed s
unfolding deficient_sets
of_deficient allowed s h =
    let parts = of_filter (λ t. ltb (count_ones (counters_of allowed t)) (count_ones t)) s (range_with_len 0 (2 ^ length allowed)) h in
    let below = of_range_below s 0 (2 ^ length allowed) parts.0 in
    record { are_places = omega arith; short_of_counters = ltb-true _ _ parts.1 }

none_listed : (allowed : List ℕ) → (Assignable allowed → ⊥) → length (assigns allowed) ≡ 0
none_listed allowed isnt = go (assigns allowed) (λ chosen h. isnt (chosen, of_listed allowed chosen h))
  where
    go : (xss : List (List ℕ)) → ((chosen : List ℕ) → In chosen xss → ⊥) → length xss ≡ 0
    go [] none = refl
    go (xs ∷ xss) none = absurd (none xs (inl refl))

pub prefix_masks : (n : ℕ) (allowed : List ℕ) → n ≤ length allowed → AreMasks allowed → AreMasks (take n allowed)
prefix_masks n allowed within masks i below =
    let size = length-take-le n allowed within in
    rw (get_or-take n allowed i 0 (omega arith)) (masks i (omega arith))

pub prefix_found : (allowed : List ℕ) (n : ℕ) → AreMasks allowed → IsShortestPrefix allowed n → shortest_prefix allowed ≡ n
unfolding shortest_prefix
prefix_found allowed n masks shortest =
    let within = shortest.within in
    ap (λ o. unwrap_or o 0) (find_range (λ m. eqb (length (assigns (take m allowed))) 0) 0 (length allowed + 1) n (omega arith) (omega arith)
    (eq-eqb _ _ (none_listed (take n allowed) shortest.not_assignable))
    (λ m lt. ne_eqb _ _ (λ e.
    let some = assignable_listed (take m allowed) (prefix_masks m allowed (omega arith) masks) (shortest.shorter m lt) in
    omega arith)))

pub computes_blame : ComputesBlame
unfolding blame_of
computes_blame allowed blame masks is =
    let n : ℕ = is.prefix in
    let prefix : List ℕ = take n allowed in
    let size : length prefix ≡ n = length-take-le n allowed is.is_shortest.within in
    let found = prefix_found allowed n masks is.is_shortest in
    let computed : ℕ = in_each_set (length prefix) (deficient_sets prefix) in
    let members : blame.members ≡ computed = same_from_bits blame.members computed (λ k. elim (cases_has blame.members k) [
      | inl has ↦
          let both = (is.members k).0 has in
          let there : Has computed k = all_in_each (length prefix) (deficient_sets prefix) k (let lt = both.0 in omega arith)
          (λ s h. both.1 s (of_deficient prefix s h)) in
          omega arith
      | inr isnt ↦ elim (cases_has computed k) [
        | inl has ↦
            let back : Has blame.members k = (is.members k).1 (
              (let lt = in_each_below (length prefix) (deficient_sets prefix) k has in omega arith),
              λ s deficient. in_each_all (length prefix) (deficient_sets prefix) k s has (in_deficient prefix s deficient),
            ) in
            absurd (omega arith)
        | inr none ↦ omega arith
      ]
    ]) in
    let made : List ℕ → Blame = λ xs.
    let m : ℕ = in_each_set (length xs) (deficient_sets xs) in record { members = m; counters = counters_of xs m } in
    ap₂ (λ m c. let r : Blame = record { members = m; counters = c } in r) members (is.counters ∙ ap (counters_of prefix) members)
    ∙ ap (λ k. made (take k allowed)) (sym found)
