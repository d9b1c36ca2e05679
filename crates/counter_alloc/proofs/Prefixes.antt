-- Assignments of prefixes, and the blame of a list whose last place cannot be added.
use Rattle.counter_alloc.proofs.Words.{◌≡◌, ℕ, ◌+◌, ◌^◌, ◌<◌, ◌≤◌, inl, inr, sym, ap, subst, ◌∙◌, arith, List, [], ◌∷◌, ◌++◌, length, get_or, take}
use Rattle.counter_alloc.proofs.Words.{drop, set, length-take-le, get_or-take, cases_lt, take_all, take-append-le, length_push, get_or_append_left}
use Rattle.counter_alloc.proofs.Words.{get_or_push, take_more_set, take_more, append_assoc, take-append-drop, pow_mono, IsAssignment, Assignable}
use Rattle.counter_alloc.proofs.Words.{Deficient, IsLeastDeficient, counters_of, IsMatching, IsBlame, Blame, AreMasks}
use Rattle.counter_alloc.proofs.Sets.{has_below}
use Rattle.counter_alloc.proofs.Hall.{deficient_not_assignable}

-- the places of a prefix keep their counters
pub assignment_take : (n : ℕ) (allowed chosen : List ℕ) → n ≤ length allowed → IsAssignment allowed chosen → IsAssignment (take n allowed) (take n chosen)
assignment_take n allowed chosen within assigned =
    let one = assigned.one_each in
    let places : length (take n allowed) ≡ n = length-take-le n allowed within in
    let counters : length (take n chosen) ≡ n = length-take-le n chosen (omega arith) in
    record {
      one_each = omega arith;
      is_allowed = λ i below. rw (get_or-take n allowed i 0 (omega arith), get_or-take n chosen i 0 (omega arith)) (assigned.is_allowed i (omega arith));
      distinct = λ i j i_in j_in same. assigned.distinct i j (omega arith) (omega arith)
          (sym (get_or-take n chosen i 0 (omega arith)) ∙ same ∙ get_or-take n chosen j 0 (omega arith));
    }

pub assignable_take : (n : ℕ) (allowed : List ℕ) → Assignable allowed → Assignable (take n allowed)
assignable_take n allowed (chosen, assigned) =
    elim (cases_lt n (length allowed)) [
      | inl lt ↦ (take n chosen, assignment_take n allowed chosen (omega arith) assigned)
      | inr ge ↦ rw (take_all n allowed ge) (chosen, assigned)
    ]

-- a list with an assignable list before it
pub assignable_front : (front back : List ℕ) → Assignable (front ++ back) → Assignable front
assignable_front front back assignable =
    let e : take (length front) (front ++ back) ≡ front = take-append-le (length front) front back (omega arith) ∙ take_all (length front) front (omega arith) in
    subst Assignable e (assignable_take (length front) (front ++ back) assignable)

pub masks_push : (counters : ℕ) (allowed : List ℕ) (mask : ℕ) → counters ≤ 32 → ((i : ℕ) → i < length allowed → get_or allowed i 0 < 2 ^ counters)
    → mask < 2 ^ counters → AreMasks (allowed ++ mask ∷ [])
masks_push counters allowed mask few old new i below =
    let power : 2 ^ counters ≤ 2 ^ 32 = pow_mono few in
    let more = length_push allowed mask in
    elim (cases_lt i (length allowed)) [
      | inl lt ↦ rw (get_or_append_left allowed (mask ∷ []) 0 i lt) (let small = old i lt in omega arith)
      | inr ge ↦ rw (get_or_push allowed mask 0 i (omega arith)) (omega arith)
    ]

pub blame_of : (allowed : List ℕ) (mask : ℕ) (blame : Blame) → AreMasks (allowed ++ mask ∷ []) → Assignable allowed
    → IsLeastDeficient (allowed ++ mask ∷ []) blame.members → blame.counters ≡ counters_of (allowed ++ mask ∷ []) blame.members
    → IsBlame (allowed ++ mask ∷ []) blame
blame_of allowed mask blame masks assignable least counters =
    let all : List ℕ = allowed ++ mask ∷ [] in
    let n : ℕ = length all in
    let more : length all ≡ length allowed + 1 = length_push allowed mask in
    let whole : take n all ≡ all = take_all n all (omega arith) in
    record {
      prefix = n;
      is_shortest = record {
        within = omega arith;
        not_assignable = λ assigned. deficient_not_assignable all blame.members masks least.is_deficient (subst Assignable whole assigned);
        shorter = λ m below. subst Assignable (sym (take-append-le m allowed (mask ∷ []) (omega arith))) (assignable_take m allowed assignable);
      };
      members = λ place. (
        (λ has. (
          has_below n blame.members place least.is_deficient.are_places has,
          λ s deficient. least.in_each s (let P : List ℕ → Type 0 = λ xs. Deficient xs s in subst P whole deficient) place has,
        )),
        λ both. both.1 blame.members (let P : List ℕ → Type 0 = λ xs. Deficient xs blame.members in subst P (sym whole) least.is_deficient),
      );
      counters = counters ∙ ap (λ xs. counters_of xs blame.members) (sym whole);
    }

module _ (counters count mask : ℕ) (kept allowed chosen : List ℕ) (is : IsMatching counters count allowed chosen) (view : take count allowed ≡ kept) (room : length kept < 32) where
  kept_count : length kept ≡ count
  kept_count = ap length (sym view) ∙ length-take-le count allowed (let few = is.few_places in let slots = is.allowed_slots in omega arith)

  -- the slots with the mask written after the list
  pub kept_pushed : take (count + 1) (set allowed count mask) ≡ kept ++ mask ∷ []
  kept_pushed =
      let within : count < length allowed = let slots = is.allowed_slots in let same = kept_count in omega arith in
      take_more_set allowed count mask within ∙ ap (λ xs. xs ++ mask ∷ []) view

  pub pushed_masks : mask < 2 ^ counters → AreMasks (kept ++ mask ∷ [])
  pushed_masks small = masks_push counters kept mask is.few_counters
      (λ i below.
      let same = kept_count in
      let read : get_or (take count allowed) i 0 ≡ get_or allowed i 0 = get_or-take count allowed i 0 (omega arith) in
      let inside = is.in_range i (omega arith) in
      let e : get_or kept i 0 ≡ get_or allowed i 0 = ap (λ xs. get_or xs i 0) (sym view) ∙ read in
      omega arith)
      small

  pub kept_assignable : Assignable kept
  kept_assignable = subst Assignable view (take count chosen, is.assigned)

  pub pushed_not_assignable : (members : ℕ) → mask < 2 ^ counters → IsLeastDeficient (take (count + 1) (set allowed count mask)) members
      → Assignable (kept ++ mask ∷ []) → ⊥
  pushed_not_assignable members small least =
      let P : List ℕ → Type 0 = λ xs. Deficient xs members in
      deficient_not_assignable _ members (pushed_masks small) (subst P kept_pushed least.is_deficient)

  pub pushed_blame : (blame : Blame) → mask < 2 ^ counters → IsLeastDeficient (take (count + 1) (set allowed count mask)) blame.members
      → blame.counters ≡ counters_of (take (count + 1) (set allowed count mask)) blame.members → IsBlame (kept ++ mask ∷ []) blame
  pushed_blame blame small least union =
      let P : List ℕ → Type 0 = λ xs. IsLeastDeficient xs blame.members in
      blame_of kept mask blame (pushed_masks small) kept_assignable (subst P kept_pushed least) (union ∙ ap (λ xs. counters_of xs blame.members) kept_pushed)

-- one more of the further natives
pub more_added : (kept more now : List ℕ) (i : ℕ) → i < length more → now ≡ kept ++ take i more → now ++ get_or more i 0 ∷ [] ≡ kept ++ take (i + 1) more
more_added kept more now i within is =
    ap (λ xs. xs ++ get_or more i 0 ∷ []) is ∙ append_assoc kept (take i more) (get_or more i 0 ∷ []) ∙ ap (λ xs. kept ++ xs) (sym (take_more more i 0 within))

pub not_assignable_more : (kept more now : List ℕ) (i : ℕ) → i < length more → now ≡ kept ++ take i more
    → (Assignable (now ++ get_or more i 0 ∷ []) → ⊥) → Assignable (kept ++ more) → ⊥
not_assignable_more kept more now i within is refused assignable =
    refused (subst Assignable (sym (more_added kept more now i within is))
    (assignable_front (kept ++ take (i + 1) more) (drop (i + 1) more)
    (subst Assignable (ap (λ xs. kept ++ xs) (sym (take-append-drop (i + 1) more)) ∙ sym (append_assoc kept (take (i + 1) more) (drop (i + 1) more))) assignable)))

pub kept_masks : (counters count : ℕ) (kept allowed chosen : List ℕ) → IsMatching counters count allowed chosen → take count allowed ≡ kept → AreMasks kept
kept_masks counters count kept allowed chosen is view i below =
    let few = is.few_places in
    let slots = is.allowed_slots in
    let same : length kept ≡ count = ap length (sym view) ∙ length-take-le count allowed (omega arith) in
    let read : get_or kept i 0 ≡ get_or allowed i 0 = ap (λ xs. get_or xs i 0) (sym view) ∙ get_or-take count allowed i 0 (omega arith) in
    let inside = is.in_range i (omega arith) in
    let power : 2 ^ counters ≤ 2 ^ 32 = pow_mono is.few_counters in
    omega arith
