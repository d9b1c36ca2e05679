-- Native events that are given counters one after another.
use Rattle.event_sets.proofs.Words.{nat_tests, ◌≡◌, ℕ, zero, suc, ◌+◌, ◌<◌, ◌≤◌, ◌^◌, true, false, ◌==◌, List, [], ◌∷◌, ◌++◌, take, drop, ap, sym}
use Rattle.event_sets.proofs.Words.{subst, ◌∙◌, arith, slice_get, Option, Some, None, All, bit_at, map-append, take-append-drop, append_assoc, Native}
use Rattle.event_sets.proofs.Words.{Assignable, IsBlame, AreMasks, masks_of, Blame, blame_stays, computes_blame, assignable_front, is_assignable_true}
use Rattle.event_sets.proofs.Words.{is_assignable_false, mask_small, Clash, blamed_unless, clash_of, members_from, drop_at, take_at}

-- one place more
pub masks_at : (natives : List Native) (i : ℕ) (n : Native) → slice_get natives i ≡ Some n → masks_of (take (i + 1) natives) ≡ masks_of (take i natives) ++ n.allowed ∷ []
masks_at natives i n e = ap masks_of (take_at natives i n e) ∙ map-append (λ (m : Native). m.allowed) (take i natives) (n ∷ [])

pub masks_split : (k : ℕ) (natives : List Native) → masks_of (take k natives) ++ masks_of (drop k natives) ≡ masks_of natives
masks_split k natives = sym (map-append (λ (m : Native). m.allowed) (take k natives) (drop k natives)) ∙ ap masks_of (take-append-drop k natives)

pub are_masks : (counters : ℕ) (natives : List Native) → counters ≤ 32 → All (λ n. n.allowed < 2 ^ counters) natives → AreMasks (masks_of natives)
are_masks counters [] few h i below = absurd (omega arith)
are_masks counters (n ∷ ns) few h zero below = mask_small counters n.allowed few (h 0 n (omega arith))
are_masks counters (n ∷ ns) few h (suc i) below = are_masks counters ns few (λ k d b. h (suc k) d (omega arith)) i (omega arith)

-- the natives before a place, with the one there, begin all
begins : (P : List ℕ → Type 0) (natives : List Native) (i : ℕ) (n : Native) (allowed : List ℕ) → slice_get natives i ≡ Some n → allowed ≡ masks_of (take i natives)
    → P (allowed ++ n.allowed ∷ []) → P (masks_of (take (i + 1) natives))
begins P natives i n allowed e is h = subst P (ap (λ xs. xs ++ n.allowed ∷ []) is ∙ sym (masks_at natives i n e)) h

-- a refusal of the native at a place rules out all
pub blame_whole : (natives : List Native) (i : ℕ) (n : Native) (allowed : List ℕ) (blame : Blame) → slice_get natives i ≡ Some n → allowed ≡ masks_of (take i natives)
    → IsBlame (allowed ++ n.allowed ∷ []) blame → IsBlame (masks_of natives) blame
blame_whole natives i n allowed blame e is h =
    let P : List ℕ → Type 0 = λ xs. IsBlame xs blame in
    subst P (masks_split (i + 1) natives) (blame_stays (masks_of (take (i + 1) natives)) (masks_of (drop (i + 1) natives)) blame (begins P natives i n allowed e is h))

pub refused_whole : (natives : List Native) (i : ℕ) (n : Native) (allowed : List ℕ) → slice_get natives i ≡ Some n → allowed ≡ masks_of (take i natives)
    → (Assignable (allowed ++ n.allowed ∷ []) → ⊥) → Assignable (masks_of natives) → ⊥
refused_whole natives i n allowed e is refused assignable =
    let P : List ℕ → Type 0 = λ xs. Assignable xs → ⊥ in
    begins P natives i n allowed e is refused
    (assignable_front (masks_of (take (i + 1) natives)) (masks_of (drop (i + 1) natives)) (subst Assignable (sym (masks_split (i + 1) natives)) assignable))

-- nothing stands in the way of natives with counters of their own
pub no_clash : (slice : Option ℕ) (from : ℕ) (natives : List Native) → slice ≡ None → AreMasks (masks_of natives) → Assignable (masks_of natives) → None ≡ clash_of slice from natives
no_clash slice from natives e masks assignable = grind (arith, nat_tests, is_assignable_true)

-- and else the natives to blame do
pub a_clash : (slice : Option ℕ) (from : ℕ) (natives : List Native) (blame : Blame) → slice ≡ None → AreMasks (masks_of natives) → (Assignable (masks_of natives) → ⊥)
    → IsBlame (masks_of natives) blame → Some (let clash : Clash = record { natives = members_from blame.members 0 natives; counters = blame.counters } in clash) ≡ clash_of slice from natives
a_clash slice from natives blame e masks isnt is =
    let told : Blame → Option Clash = λ b. Some (let clash : Clash = record { natives = members_from b.members 0 natives; counters = b.counters } in clash) in
    ap told (computes_blame (masks_of natives) blame masks is)
    ∙ sym (ap (λ s. clash_of s from natives) e ∙ ap (λ b. blamed_unless b natives) (is_assignable_false (masks_of natives) masks isnt))

-- one place more that is a member, and one that is not
pub member_joins : (places i : ℕ) (n : Native) (members natives all : List Native) → slice_get natives i ≡ Some n → (bit_at places i == 1) ≡ true
    → members ++ members_from places i (drop i natives) ≡ all → (members ++ n ∷ []) ++ members_from places (i + 1) (drop (i + 1) natives) ≡ all
member_joins places i n members natives all e is h = grind (arith, nat_tests, append_assoc, drop_at)

pub member_not : (places i : ℕ) (n : Native) (members natives all : List Native) → slice_get natives i ≡ Some n → (bit_at places i == 1) ≡ false
    → members ++ members_from places i (drop i natives) ≡ all → members ++ members_from places (i + 1) (drop (i + 1) natives) ≡ all
member_not places i n members natives all e isnt h = grind (arith, nat_tests, drop_at)
