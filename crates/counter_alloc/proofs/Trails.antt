-- A trail that is begun, that grows, and that ends closed.
use Rattle.counter_alloc.proofs.Words.{◌≡◌, ◌≢◌, ℕ, zero, suc, ◌+◌, ◌^◌, ◌<◌, ◌≤◌, ◌↔◌, inl, inr, refl, sym, ap, subst, ◌∙◌, arith, List, length}
use Rattle.counter_alloc.proofs.Words.{get_or, get_or-set_same, get_or-set_other, length-set, cases_eq, bit_at-lt, bit_at, count_ones, Has, Deficient}
use Rattle.counter_alloc.proofs.Words.{IsLeastDeficient, counters_of, Holds, IsTrail, IsFree, CanWalk, Grows, Reaches, AreHeld, Trail, AreMasks}
use Rattle.counter_alloc.proofs.Sizes.{size, without, without_other, size_without, pigeons, ones_size}
use Rattle.counter_alloc.proofs.Sets.{below_from_bits, counters_of_member, counters_from_below}
use Rattle.counter_alloc.proofs.Hall.{hole_in_each, holder_in_each}

size_ones : (n : ℕ) → size (λ _. 1) n ≡ n
size_ones zero = refl
size_ones (suc n) = let e = size_ones n in omega arith

-- while a place is not reached, the trail is shorter than the list
pub trail_room : (allowed chosen : List ℕ) (hole : ℕ) (trail : Trail) (place : ℕ) → IsTrail allowed chosen hole trail
    → place < length allowed → bit_at trail.places place ≡ 0 → trail.count < length allowed
trail_room allowed chosen hole trail place is place_in hasnt =
    let n : ℕ = length allowed in
    let R : ℕ → ℕ → Type 0 = λ j p. (j < trail.count) × (get_or trail.order j 0 ≡ p) in
    let few : size (λ _. 1) trail.count ≤ size (without (λ _. 1) place) n =
    pigeons trail.count n (λ _. 1) (without (λ _. 1) place) R (λ k. omega arith)
    (λ j below member.
    let apart : get_or trail.order j 0 ≢ place = λ e.
    let has = is.in_set j below in
    let same : bit_at trail.places (get_or trail.order j 0) ≡ bit_at trail.places place = ap (bit_at trail.places) e in
    omega arith in
    (get_or trail.order j 0, is.path.are_places j below, without_other (λ _. 1) place _ apart, (below, refl)))
    (λ j k p a b. is.path.distinct j k a.0 b.0 (a.1 ∙ sym b.1)) in
    let all = size_ones trail.count in
    let places = size_ones n in
    let fewer = size_without (λ _. 1) place n place_in in
    omega arith

pub trail_begun : (allowed chosen : List ℕ) (hole : ℕ) (trail : Trail) → hole < length allowed → trail.count ≡ 1
    → length trail.order ≡ 32 → length trail.from ≡ 32 → get_or trail.order 0 0 ≡ hole → ((i : ℕ) → (Has trail.places i ↔ (i ≡ hole))) → IsTrail allowed chosen hole trail
trail_begun allowed chosen hole trail hole_in one order_slots from_slots first places =
    let at_start = λ (j : ℕ) (below : j < trail.count). let P : ℕ → Type 0 = λ k. get_or trail.order k 0 ≡ hole in subst P (let z : 0 ≡ j = omega arith in z) first in
    record {
      order_slots = order_slots;
      from_slots = from_slots;
      path = record {
        begun = omega arith;
        within = omega arith;
        first = first;
        are_places = λ j below. let e : get_or trail.order j 0 ≡ hole = at_start j below in omega arith;
        distinct = λ i j i_in j_in same. omega arith;
        earlier = λ j positive below. absurd (omega arith);
        wanted = λ j positive below. absurd (omega arith);
      };
      in_set = λ j below. (places (get_or trail.order j 0)).1 (at_start j below);
      on_path = λ p has. (0, omega arith, first ∙ sym ((places p).0 has));
    }

module _ (allowed chosen : List ℕ) (hole : ℕ) (old new : Trail) (place at : ℕ) where
  pub reach_grows : old.count < length old.order → Reaches old new place at → Grows old new
  reach_grows room reaches =
      let count = reaches.count in
      record {
        longer = omega arith;
        same = λ j below. rw (reaches.order, get_or-set_other old.order old.count j place 0 (omega arith)) refl;
        more = λ p has. elim (cases_eq p place) [
          | inl e ↦ rw e reaches.has_place
          | inr ne ↦ (reaches.has_others p ne).1 has
        ];
      }

  pub reach_trail : length allowed ≤ 32 → IsTrail allowed chosen hole old → Reaches old new place at
      → place < length allowed → bit_at old.places place ≡ 0 → at < old.count
      → Has (get_or allowed (get_or old.order at 0) 0) (get_or chosen place 0) → IsTrail allowed chosen hole new
  reach_trail few is reaches place_in hasnt at_in wants =
      let path = is.path in
      let order_slots = is.order_slots in
      let from_slots = is.from_slots in
      let room : old.count < length allowed = trail_room allowed chosen hole old place is place_in hasnt in
      let begun = path.begun in
      let count = reaches.count in
      let order_at : get_or new.order old.count 0 ≡ place = rw (reaches.order) (get_or-set_same old.order old.count place 0 (omega arith)) in
      let from_at : get_or new.from old.count 0 ≡ at = rw (reaches.from) (get_or-set_same old.from old.count at 0 (omega arith)) in
      let order_below = λ (j : ℕ) (ne : j ≢ old.count). ap (λ xs. get_or xs j 0) reaches.order ∙ get_or-set_other old.order old.count j place 0 ne in
      let from_below = λ (j : ℕ) (ne : j ≢ old.count). ap (λ xs. get_or xs j 0) reaches.from ∙ get_or-set_other old.from old.count j at 0 ne in
      let new_place = λ (j : ℕ) (below : j < old.count) (e : get_or old.order j 0 ≡ place).
      let has = is.in_set j below in
      let same : bit_at old.places (get_or old.order j 0) ≡ bit_at old.places place = ap (bit_at old.places) e in
      let no : ⊥ = omega arith in
      no in
      record {
        order_slots = ap length reaches.order ∙ length-set old.order old.count place ∙ is.order_slots;
        from_slots = ap length reaches.from ∙ length-set old.from old.count at ∙ is.from_slots;
        path = record {
          begun = omega arith;
          within = omega arith;
          first = order_below 0 (omega arith) ∙ path.first;
          are_places = λ j below. elim (cases_eq j old.count) [
            | inl e ↦ rw (e, order_at) place_in
            | inr ne ↦ rw (order_below j ne) (path.are_places j (omega arith))
          ];
          distinct = λ i j i_in j_in same. elim (cases_eq i old.count) [
            | inl ie ↦ elim (cases_eq j old.count) [
              | inl je ↦ ie ∙ sym je
              | inr jo ↦ absurd (new_place j (omega arith) (sym (order_below j jo) ∙ sym same ∙ ap (λ k. get_or new.order k 0) ie ∙ order_at))
            ]
            | inr io ↦ elim (cases_eq j old.count) [
              | inl je ↦ absurd (new_place i (omega arith) (sym (order_below i io) ∙ same ∙ ap (λ k. get_or new.order k 0) je ∙ order_at))
              | inr jo ↦ path.distinct i j (omega arith) (omega arith) (sym (order_below i io) ∙ same ∙ order_below j jo)
            ]
          ];
          earlier = λ j positive below. elim (cases_eq j old.count) [
            | inl e ↦ rw (e, from_at) at_in
            | inr ne ↦ rw (from_below j ne) (path.earlier j positive (omega arith))
          ];
          wanted = λ j positive below. elim (cases_eq j old.count) [
            | inl e ↦ rw (e, from_at, order_at, order_below at (omega arith)) wants
            | inr ne ↦
                let back : get_or old.from j 0 < j = path.earlier j positive (omega arith) in
                rw (from_below j ne, order_below j ne, order_below (get_or old.from j 0) (omega arith)) (path.wanted j positive (omega arith))
          ];
        };
        in_set = λ j below. elim (cases_eq j old.count) [
          | inl e ↦ rw (e, order_at) reaches.has_place
          | inr ne ↦ rw (order_below j ne) ((reach_grows (omega arith) reaches).more _ (is.in_set j (omega arith)))
        ];
        on_path = λ p has. elim (cases_eq p place) [
          | inl e ↦ (old.count, omega arith, order_at ∙ sym e)
          | inr ne ↦
              let found = is.on_path p ((reaches.has_others p ne).0 has) in
              (found.0, omega arith, order_below found.0 (omega arith) ∙ found.2)
        ];
      }

-- what is held by a set is held by a larger one
pub held_more : (allowed chosen : List ℕ) (hole small large place bound : ℕ) → ((p : ℕ) → Has small p → Has large p)
    → AreHeld allowed chosen hole small place bound → AreHeld allowed chosen hole large place bound
held_more allowed chosen hole small large place bound more held c below wants =
    let by = held c below wants in (by.0, by.1, by.2, by.3, more by.0 by.4)

-- one more counter that the place is not allowed, or that a place of the set holds
pub held_skip : (allowed chosen : List ℕ) (hole places place bound : ℕ) → (Has (get_or allowed place 0) bound → ⊥)
    → AreHeld allowed chosen hole places place bound → AreHeld allowed chosen hole places place (bound + 1)
held_skip allowed chosen hole places place bound isnt held c below wants =
    elim (cases_eq c bound) [
      | inl e ↦ absurd (isnt (rw (← e) wants))
      | inr ne ↦ held c (omega arith) wants
    ]

pub held_next : (allowed chosen : List ℕ) (hole places place bound i : ℕ) → i < length chosen → i ≢ hole → get_or chosen i 0 ≡ bound → Has places i
    → AreHeld allowed chosen hole places place bound → AreHeld allowed chosen hole places place (bound + 1)
held_next allowed chosen hole places place bound i i_in apart is reached held c below wants =
    elim (cases_eq c bound) [
      | inl e ↦ (i, i_in, apart, is ∙ sym e, reached)
      | inr ne ↦ held c (omega arith) wants
    ]

-- what a visit of the place at `at` keeps: the counters below this one are held
pub record Visited (allowed chosen : List ℕ) (hole : ℕ) (old trail : Trail) (place counter : ℕ) : Type 0 where
  pub trail_is : IsTrail allowed chosen hole trail
  pub grows : Grows old trail
  pub held : AreHeld allowed chosen hole trail.places place counter

pub grows_more : (old middle new : Trail) → Grows old middle → Grows middle new → Grows old new
grows_more old middle new first second =
    let a = first.longer in
    let b = second.longer in
    record {
      longer = omega arith;
      same = λ j below. second.same j (omega arith) ∙ first.same j below;
      more = λ p has. second.more p (first.more p has);
    }

module _ (allowed chosen : List ℕ) (hole : ℕ) (old trail : Trail) (place counter : ℕ) (visited : Visited allowed chosen hole old trail place counter) where
  pub visit_skip : (Has (get_or allowed place 0) counter → ⊥) → Visited allowed chosen hole old trail place (counter + 1)
  visit_skip isnt = record {
    trail_is = visited.trail_is;
    grows = visited.grows;
    held = held_skip allowed chosen hole trail.places place counter isnt visited.held;
  }

  pub visit_known : (next : ℕ) → next < length chosen → next ≢ hole → get_or chosen next 0 ≡ counter → Has trail.places next
      → Visited allowed chosen hole old trail place (counter + 1)
  visit_known next next_in apart is reached = record {
    trail_is = visited.trail_is;
    grows = visited.grows;
    held = held_next allowed chosen hole trail.places place counter next next_in apart is reached visited.held;
  }

  pub visit_reach : (new : Trail) (at next : ℕ) → length allowed ≤ 32 → length chosen ≡ length allowed → at < old.count → get_or old.order at 0 ≡ place
      → Has (get_or allowed place 0) counter → next < length chosen → next ≢ hole → get_or chosen next 0 ≡ counter → bit_at trail.places next ≡ 0
      → Reaches trail new next at → Visited allowed chosen hole old new place (counter + 1)
  visit_reach new at next few one at_in at_place wants next_in apart is unreached reaches =
      let trail_is = visited.trail_is in
      let grows = visited.grows in
      let longer = grows.longer in
      let order_slots = trail_is.order_slots in
      let within = trail_is.path.within in
      let room : trail.count < length allowed = trail_room allowed chosen hole trail next trail_is (omega arith) unreached in
      let step : Grows trail new = reach_grows allowed chosen hole trail new next at (omega arith) reaches in
      let from_place : get_or trail.order at 0 ≡ place = grows.same at at_in ∙ at_place in
      record {
        trail_is = reach_trail allowed chosen hole trail new next at few trail_is reaches (omega arith) unreached (omega arith) (rw (from_place, is) wants);
        grows = grows_more old trail new grows step;
        held = held_next allowed chosen hole new.places place counter next next_in apart is reaches.has_place
            (held_more allowed chosen hole trail.places new.places place counter step.more visited.held);
      }

-- a free counter that the place at `at` is allowed can be handed down the trail
pub can_walk : (allowed chosen : List ℕ) (hole : ℕ) (old trail : Trail) (at counter : ℕ) → hole < length allowed → Holds allowed chosen hole
    → IsTrail allowed chosen hole trail → Grows old trail → at < old.count → IsFree chosen hole counter → Has (get_or allowed (get_or old.order at 0) 0) counter
    → CanWalk allowed chosen trail at counter
can_walk allowed chosen hole old trail at counter hole_in held is grows at_in free wants =
    let path = is.path in
    let longer = grows.longer in
    let within = path.within in
    record {
      hole = hole;
      hole_in = hole_in;
      held = held;
      free = free;
      path = record {
        begun = omega arith;
        within = omega arith;
        first = path.first;
        are_places = λ j below. path.are_places j (omega arith);
        distinct = λ i j i_in j_in. path.distinct i j (omega arith) (omega arith);
        earlier = λ j positive below. path.earlier j positive (omega arith);
        wanted = λ j positive below. path.wanted j positive (omega arith);
      };
      wants = rw (grows.same at at_in) wants;
    }

-- one more place of the trail whose counters are held
pub held_place : (allowed chosen : List ℕ) (hole : ℕ) (old trail : Trail) (at : ℕ) → Grows old trail → at ≤ old.count → at < old.count
    → ((j : ℕ) → j < at → AreHeld allowed chosen hole old.places (get_or old.order j 0) 32)
    → AreHeld allowed chosen hole trail.places (get_or old.order at 0) 32
    → (j : ℕ) → j < at + 1 → AreHeld allowed chosen hole trail.places (get_or trail.order j 0) 32
held_place allowed chosen hole old trail at grows within at_in held here j below =
    let P : ℕ → Type 0 = λ place. AreHeld allowed chosen hole trail.places place 32 in
    elim (cases_eq j at) [
      | inl e ↦ subst P (ap (λ k. get_or old.order k 0) (sym e) ∙ sym (grows.same j (omega arith))) here
      | inr ne ↦ subst P (sym (grows.same j (omega arith)))
          (held_more allowed chosen hole old.places trail.places (get_or old.order j 0) 32 grows.more (held j (omega arith)))
    ]

-- a trail whose places' counters are all held by its own is the least deficient set
pub closed_trail : (allowed chosen : List ℕ) (hole : ℕ) (trail : Trail) → AreMasks allowed → Holds allowed chosen hole → hole < length allowed
    → IsTrail allowed chosen hole trail → ((j : ℕ) → j < trail.count → AreHeld allowed chosen hole trail.places (get_or trail.order j 0) 32)
    → IsLeastDeficient allowed trail.places
closed_trail allowed chosen hole trail masks held hole_in is closed =
    let n : ℕ = length allowed in
    let one : length chosen ≡ n = held.one_each in
    let path = is.path in
    let start : Has trail.places hole =
    let P : ℕ → Type 0 = λ p. Has trail.places p in subst P path.first (is.in_set 0 path.begun) in
    let within : trail.places < 2 ^ n = below_from_bits n trail.places (λ p has.
    let found = is.on_path p has in
    let P : ℕ → Type 0 = λ q. q < n in subst P found.2 (path.are_places found.0 found.1)) in
    let union : ℕ = counters_of allowed trail.places in
    let union_below : union < 2 ^ 32 = counters_from_below 32 0 allowed trail.places masks in
    let members : count_ones trail.places ≡ size (bit_at trail.places) n = ones_size n trail.places within in
    let counters : count_ones union ≡ size (bit_at union) 32 = ones_size 32 union union_below in
    let fewer : size (without (bit_at trail.places) hole) n + bit_at trail.places hole ≡ size (bit_at trail.places) n =
    size_without (bit_at trail.places) hole n hole_in in
    let few : size (bit_at union) 32 ≤ size (without (bit_at trail.places) hole) n =
    pigeons 32 n (bit_at union) (without (bit_at trail.places) hole) (λ c i. get_or chosen i 0 ≡ c) (bit_at-lt union)
    (λ c below has.
    let wanted_by = counters_of_member allowed trail.places c has in
    let found = is.on_path wanted_by.0 wanted_by.2 in
    let wants : Has (get_or allowed (get_or trail.order found.0 0) 0) c =
    let P : ℕ → Type 0 = λ q. Has (get_or allowed q 0) c in subst P (sym found.2) wanted_by.3 in
    let by = closed found.0 found.1 c below wants in
    (by.0, omega arith, without_other (bit_at trail.places) hole by.0 by.2 ∙ by.4, by.3))
    (λ c d i p q. sym p ∙ q) in
    record {
      is_deficient = record { are_places = within; short_of_counters = omega arith };
      in_each = λ s deficient place has.
          let found = is.on_path place has in
          let P : ℕ → Type 0 = λ q. Has s q in
          subst P found.2 (reached_in found.0 found.0 s deficient (omega arith) found.1);
    }
  where
    at_start : (j s : ℕ) → Deficient allowed s → j ≡ 0 → Has s (get_or trail.order j 0)
    at_start j s deficient e =
        let P : ℕ → Type 0 = λ k. Has s k in
        subst P (sym (ap (λ k. get_or trail.order k 0) e ∙ is.path.first)) (hole_in_each allowed chosen hole masks held hole_in s deficient)

    -- each place of the trail is in the deficient set, by the places before it
    reached_in : (bound j s : ℕ) → Deficient allowed s → j ≤ bound → j < trail.count → Has s (get_or trail.order j 0)
    reached_in zero j s deficient le below = at_start j s deficient (omega arith)
    reached_in (suc bound) j s deficient le below =
        elim (cases_eq j 0) [
          | inl e ↦ at_start j s deficient e
          | inr ne ↦
              let path = is.path in
              let back : get_or trail.from j 0 < j = path.earlier j (omega arith) below in
              let apart : get_or trail.order j 0 ≢ hole = λ e. ne (path.distinct j 0 below path.begun (e ∙ sym path.first)) in
              holder_in_each allowed chosen hole masks held hole_in s deficient (get_or trail.order (get_or trail.from j 0) 0) (get_or trail.order j 0)
              (path.are_places (get_or trail.from j 0) (omega arith))
              (reached_in bound (get_or trail.from j 0) s deficient (omega arith) (omega arith))
              (path.are_places j below) apart (path.wanted j (omega arith) below)
        ]
