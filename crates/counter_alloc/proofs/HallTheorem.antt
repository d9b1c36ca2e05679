-- Hall's theorem for one more place: a list of which all places but the last have counters has an assignment or a least
-- deficient set. The search for an alternating path, on lists.
use Rattle.counter_alloc.proofs.Words.{◌≡◌, ◌≢◌, ℕ, zero, suc, ◌+◌, ◌^◌, ◌<◌, ◌≤◌, ◌⊎◌, ◌↔◌, inl, inr, refl, sym, ap, subst, ◌∙◌, arith, add-one}
use Rattle.counter_alloc.proofs.Words.{List, [], ◌∷◌, ◌++◌, length, get_or, set, bit_or, replicate, cases_eq, cases_lt, length_push}
use Rattle.counter_alloc.proofs.Words.{get_or_append_left, bit_at_or, bit_at-lt, bit_at-pow_same, bit_at-pow_other, Has, IsAssignment, Assignable}
use Rattle.counter_alloc.proofs.Words.{IsLeastDeficient, AreMasks, Holds, IsFree, IsTrail, CanWalk, Grows, Reaches, AreHeld, Trail}
use Rattle.counter_alloc.proofs.Sets.{cases_has, has_or_right}
use Rattle.counter_alloc.proofs.Trails.{Visited, can_walk, closed_trail, held_place, trail_begun, visit_known, visit_reach, visit_skip}
use Rattle.counter_alloc.proofs.Walk.{walk_end, walk_step}

-- a place below n other than the hole that has the counter
abbrev Holder : List ℕ → ℕ → ℕ → ℕ → Type 0
Holder chosen hole counter n = (i : ℕ) × (i < n) × (i ≢ hole) × (get_or chosen i 0 ≡ counter)

-- no place below n but the hole has the counter, or one has
free_or_held : (chosen : List ℕ) (hole counter n : ℕ) → ((i : ℕ) → i < n → i ≢ hole → get_or chosen i 0 ≢ counter) ⊎ Holder chosen hole counter n
free_or_held chosen hole counter zero = inl (λ i below apart same. omega arith)
free_or_held chosen hole counter (suc n) = elim (free_or_held chosen hole counter n) [
  | inr h ↦ inr (h.0, omega arith, h.2, h.3)
  | inl free ↦ elim (cases_eq n hole) [
    | inl is ↦ inl (λ i below apart same. free i (omega arith) apart same)
    | inr apart ↦ elim (cases_eq (get_or chosen n 0) counter) [
      | inl same ↦ inr (n, omega arith, apart, same)
      | inr other ↦ inl (λ i below ne same. elim (cases_eq i n) [
        | inl e ↦ other (ap (λ k. get_or chosen k 0) (sym e) ∙ same)
        | inr lower ↦ free i (omega arith) ne same
      ])
    ]
  ]
]

-- the trail with a place at its end, reached from the place at `at`
abbrev longer : Trail → ℕ → ℕ → Trail
longer trail place at = record {
  order = set trail.order trail.count place;
  from = set trail.from trail.count at;
  count = trail.count + 1;
  places = bit_or trail.places (2 ^ place);
}

reaches : (trail : Trail) (place at : ℕ) → Reaches trail (longer trail place at) place at
reaches trail place at = record {
  order = refl;
  from = refl;
  count = refl;
  has_place = has_or_right trail.places (2 ^ place) place (bit_at-pow_same place);
  has_others = λ i apart.
      let either = bit_at_or trail.places (2 ^ place) i in
      let none = bit_at-pow_other place i apart in
      let small = bit_at-lt trail.places i in
      ((λ has. omega arith), λ has. omega arith);
}

-- the trail of the hole alone
abbrev begun : ℕ → Trail
begun hole = record { order = hole ∷ replicate 31 0; from = replicate 32 0; count = 1; places = 2 ^ hole }

begun_places : (hole i : ℕ) → Has (2 ^ hole) i ↔ (i ≡ hole)
begun_places hole i = (
  (λ has. elim (cases_eq i hole) [ inl e ↦ e | inr apart ↦ let none = bit_at-pow_other hole i apart in absurd (omega arith) ]),
  λ e. let P : ℕ → Type 0 = Has (2 ^ hole) in subst P (sym e) (bit_at-pow_same hole),
)

-- a free counter that is handed down the path from the place at `at` completes an assignment
walked : (n at counter : ℕ) (allowed chosen : List ℕ) (trail : Trail) → at ≤ n → CanWalk allowed chosen trail at counter → Assignable allowed
walked zero at counter allowed chosen trail le can =
    let P : ℕ → Type 0 = λ k. CanWalk allowed chosen trail k counter in
    (set chosen (get_or trail.order 0 0) counter, walk_end allowed chosen trail counter (let e : at ≡ 0 = omega arith in subst P e can))
walked (suc n) at counter allowed chosen trail le can = elim (cases_eq at 0) [
  | inl e ↦
      let P : ℕ → Type 0 = λ k. CanWalk allowed chosen trail k counter in
      (set chosen (get_or trail.order 0 0) counter, walk_end allowed chosen trail counter (subst P e can))
  | inr later ↦
      let back : get_or trail.from at 0 < at = can.path.earlier at (omega arith) (omega arith) in
      walked n (get_or trail.from at 0) (get_or chosen (get_or trail.order at 0) 0) allowed (set chosen (get_or trail.order at 0) counter) trail (omega arith)
      (walk_step allowed chosen trail at counter (omega arith) can)
]

module _ (allowed chosen : List ℕ) (hole : ℕ) (masks : AreMasks allowed) (few : length allowed ≤ 32) (hole_in : hole < length allowed) (held : Holds allowed chosen hole) where
  -- a counter below c that the place at `at` is allowed is free, or all of them are held by places of a longer trail
  visited : (old : Trail) (at c : ℕ) → IsTrail allowed chosen hole old → at < old.count
      → ((k : ℕ) × IsFree chosen hole k × Has (get_or allowed (get_or old.order at 0) 0) k)
      ⊎ ((new : Trail) × Visited allowed chosen hole old new (get_or old.order at 0) c)
  visited old at zero is at_in = inr (
    old,
    record {
      trail_is = is;
      grows = record { longer = omega arith; same = λ j below. refl; more = λ p has. has };
      held = λ k below. absurd (omega arith);
    },
  )
  visited old at (suc c) is at_in =
      let place : ℕ = get_or old.order at 0 in
      let one : length chosen ≡ length allowed = held.one_each in
      let next = λ (new : Trail) (v : Visited allowed chosen hole old new place (c + 1)). let P : ℕ → Type 0 = Visited allowed chosen hole old new place in subst P (add-one c) v in
      elim (visited old at c is at_in) [
        | inl free ↦ inl free
        | inr seen ↦ elim (cases_has (get_or allowed place 0) c) [
          | inr hasnt ↦ inr (seen.0, next seen.0 (visit_skip allowed chosen hole old seen.0 place c seen.1 (λ has. omega arith)))
          | inl wants ↦ elim (free_or_held chosen hole c (length chosen)) [
            | inl free ↦ inl (c, free, wants)
            | inr by ↦ elim (cases_has seen.0.places by.0) [
              | inl known ↦ inr (seen.0, next seen.0 (visit_known allowed chosen hole old seen.0 place c seen.1 by.0 by.1 by.2 by.3 known))
              | inr unreached ↦ inr (
                longer seen.0 by.0 at,
                next (longer seen.0 by.0 at) (visit_reach allowed chosen hole old seen.0 place c seen.1 (longer seen.0 by.0 at) at by.0 few one at_in refl wants by.1 by.2 by.3 unreached
                    (reaches seen.0 by.0 at)),
              )
            ]
          ]
        ]
      ]

  -- the places before `at` hand their counters to places of the trail, and so on until one is free or all are held
  searched : (fuel at : ℕ) (trail : Trail) → 33 ≤ fuel + at → at ≤ trail.count → IsTrail allowed chosen hole trail
      → ((j : ℕ) → j < at → AreHeld allowed chosen hole trail.places (get_or trail.order j 0) 32)
      → Assignable allowed ⊎ ((s : ℕ) × IsLeastDeficient allowed s)
  searched zero at trail enough within is done = let most = is.path.within in absurd (omega arith)
  searched (suc fuel) at trail enough within is done = elim (cases_lt at trail.count) [
    | inr ge ↦ inr (trail.places, closed_trail allowed chosen hole trail masks held hole_in is (λ j below. done j (omega arith)))
    | inl lt ↦ elim (visited trail at 32 is lt) [
      | inl free ↦
          let same : Grows trail trail = record { longer = omega arith; same = λ j below. refl; more = λ p has. has } in
          inl (walked at at free.0 allowed chosen trail (omega arith) (can_walk allowed chosen hole trail trail at free.0 hole_in held is same lt free.1 free.2))
      | inr seen ↦
          let longer = seen.1.grows.longer in
          searched fuel (at + 1) seen.0 (omega arith) (omega arith) seen.1.trail_is
          (held_place allowed chosen hole trail seen.0 at seen.1.grows within lt done seen.1.held)
    ]
  ]

  pub assigned_or_deficient : Assignable allowed ⊎ ((s : ℕ) × IsLeastDeficient allowed s)
  assigned_or_deficient =
      let is : IsTrail allowed chosen hole (begun hole) = trail_begun allowed chosen hole (begun hole) hole_in refl refl refl refl (begun_places hole) in
      searched 33 0 (begun hole) (omega arith) (omega arith) is (λ j below. absurd (omega arith))

-- an assignment of all places but the last leaves the last alone without a counter
pushed_holds : (front chosen : List ℕ) (mask : ℕ) → IsAssignment front chosen → Holds (front ++ mask ∷ []) (chosen ++ 0 ∷ []) (length front)
pushed_holds front chosen mask is =
    let one = is.one_each in
    let places = length_push front mask in
    let counters = length_push chosen 0 in
    let allowed_at = λ (i : ℕ) (below : i < length front). get_or_append_left front (mask ∷ []) 0 i below in
    let chosen_at = λ (i : ℕ) (below : i < length front). get_or_append_left chosen (0 ∷ []) 0 i (let b : i < length chosen = omega arith in b) in
    record {
      one_each = omega arith;
      is_allowed = λ i below apart. rw (allowed_at i (omega arith), chosen_at i (omega arith)) (is.is_allowed i (omega arith));
      distinct = λ i j i_in j_in i_apart j_apart same. is.distinct i j (omega arith) (omega arith) (sym (chosen_at i (omega arith)) ∙ same ∙ chosen_at j (omega arith));
    }

-- one place more than those of a list with an assignment
pub one_more_place : (front : List ℕ) (mask : ℕ) → AreMasks (front ++ mask ∷ []) → length front < 32 → Assignable front
    → Assignable (front ++ mask ∷ []) ⊎ ((s : ℕ) × IsLeastDeficient (front ++ mask ∷ []) s)
one_more_place front mask masks few (chosen, is) =
    let places = length_push front mask in
    assigned_or_deficient (front ++ mask ∷ []) (chosen ++ 0 ∷ []) (length front) masks (omega arith) (omega arith) (pushed_holds front chosen mask is)
