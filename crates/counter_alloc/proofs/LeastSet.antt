-- The blame of a list without an assignment is the least deficient set of its shortest prefix without one.
use Rattle.counter_alloc.proofs.Words.{◌≡◌, ℕ, zero, suc, ◌≤◌, ◌⊎◌, inl, inr, refl, sym, ap, subst, ◌∙◌, arith, add-one, List, [], ◌∷◌, ◌++◌, length}
use Rattle.counter_alloc.proofs.Words.{get_or, take, length-take-le, take-take, take_more, take_all, Assignable, IsLeastDeficient, IsShortestPrefix}
use Rattle.counter_alloc.proofs.Words.{counters_of, IsBlame, shortest_prefix, blame_of, AreMasks, IsLeastSet, LeastSet, Blame}
use Rattle.counter_alloc.proofs.BlameComputed.{computes_blame, prefix_found, prefix_masks}
use Rattle.counter_alloc.proofs.Fitting.{not_assignable_of}
use Rattle.counter_alloc.proofs.Hall.{deficient_not_assignable}
use Rattle.counter_alloc.proofs.HallTheorem.{one_more_place}
use Rattle.counter_alloc.proofs.Prefixes.{assignable_take}
use Rattle.counter_alloc.proofs.Sets.{has_below}

-- the shortest prefix without an assignment has n places, and s is its least deficient set
record Found (allowed : List ℕ) (n s : ℕ) : Type 0 where
  shortest : IsShortestPrefix allowed n
  least : IsLeastDeficient (take n allowed) s

none_assigned : Assignable []
none_assigned = ([], record { one_each = refl; is_allowed = λ i below. absurd (omega arith); distinct = λ i j i_in j_in same. absurd (omega arith) })

-- a shorter prefix of an assignable prefix
shorter_assigned : (allowed : List ℕ) (n m : ℕ) → m ≤ n → n ≤ length allowed → Assignable (take n allowed) → Assignable (take m allowed)
shorter_assigned allowed n m below within assigned = subst Assignable (take-take m n allowed below) (assignable_take m (take n allowed) assigned)

-- the first n places have counters, or the shortest prefix that has none is found among them
assigned_or_found : (allowed : List ℕ) → AreMasks allowed → length allowed ≤ 32 → (n : ℕ) → n ≤ length allowed
    → Assignable (take n allowed) ⊎ ((m : ℕ) × (s : ℕ) × Found allowed m s)
assigned_or_found allowed masks few zero within = inl none_assigned
assigned_or_found allowed masks few (suc n) within = elim (assigned_or_found allowed masks few n (omega arith)) [
  | inr found ↦ inr found
  | inl assigned ↦
      let mask : ℕ = get_or allowed n 0 in
      let size : length (take n allowed) ≡ n = length-take-le n allowed (omega arith) in
      let e : take n allowed ++ mask ∷ [] ≡ take (suc n) allowed = sym (take_more allowed n 0 (omega arith)) ∙ ap (λ k. take k allowed) (add-one n) in
      let front_masks : AreMasks (take n allowed ++ mask ∷ []) = subst AreMasks (sym e) (prefix_masks (suc n) allowed within masks) in
      elim (one_more_place (take n allowed) mask front_masks (omega arith) assigned) [
        | inl more ↦ inl (subst Assignable e more)
        | inr deficient ↦
            let P : List ℕ → Type 0 = λ xs. IsLeastDeficient xs deficient.0 in
            let least : IsLeastDeficient (take (suc n) allowed) deficient.0 = subst P e deficient.1 in
            inr (
              suc n,
              deficient.0,
              record {
                shortest = record {
                  within = within;
                  not_assignable = deficient_not_assignable (take (suc n) allowed) deficient.0 (prefix_masks (suc n) allowed within masks) least.is_deficient;
                  shorter = λ m below. shorter_assigned allowed n m (omega arith) (omega arith) assigned;
                };
                least = least;
              },
            )
      ]
]

-- the least deficient set of the shortest prefix is the blame
found_blame : (allowed : List ℕ) (n s : ℕ) → Found allowed n s → let blame : Blame = record { members = s; counters = counters_of (take n allowed) s } in IsBlame allowed blame
found_blame allowed n s found =
    let size : length (take n allowed) ≡ n = length-take-le n allowed found.shortest.within in
    record {
      prefix = n;
      is_shortest = found.shortest;
      members = λ place. (
        (λ has. (
          (let below = has_below (length (take n allowed)) s place found.least.is_deficient.are_places has in omega arith),
          λ t deficient. found.least.in_each t deficient place has,
        )),
        λ both. both.1 s found.least.is_deficient,
      );
      counters = refl;
    }

pub least_set : LeastSet
least_set allowed masks few isnt = elim (assigned_or_found allowed masks few (length allowed) (omega arith)) [
  | inl assigned ↦ absurd (not_assignable_of allowed masks isnt (subst Assignable (take_all (length allowed) allowed (omega arith)) assigned))
  | inr (n, s, found) ↦
      let told : Blame = record { members = s; counters = counters_of (take n allowed) s } in
      let same : told ≡ blame_of allowed = computes_blame allowed told masks (found_blame allowed n s found) in
      let prefix : shortest_prefix allowed ≡ n = prefix_found allowed n masks found.shortest in
      let P : ℕ → Type 0 = IsShortestPrefix allowed in
      let Q : ℕ → Type 0 = λ k. IsLeastDeficient (take k allowed) s in
      let R : ℕ → Type 0 = λ k. told.counters ≡ counters_of (take k allowed) s in
      let is : IsLeastSet allowed told = record {
        shortest = subst P (sym prefix) found.shortest;
        least = subst Q (sym prefix) found.least;
        counters = subst R (sym prefix) refl;
      } in
      let S : Blame → Type 0 = IsLeastSet allowed in
      subst S same is
]
