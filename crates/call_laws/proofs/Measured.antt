-- What the model counts and estimates over a set's window is what the law does over its occurrences.
use Rattle.call_laws.proofs.Words.{nat_tests, ◌≡◌, ℕ, ◌+◌, ◌-◌, Bool, true, false, List, [], ◌∷◌, ◌++◌, length, take, drop, map, refl, sym, ap, ap₂}
use Rattle.call_laws.proofs.Words.{◌∙◌, arith, Option, Some, None, position_or_len, zero-div, zero-mul, take-add, take-length, take-append-drop}
use Rattle.call_laws.proofs.Words.{last-append, Native, Occ, weight_of, masks_of, groups, Turns, active, estimate, weight_in_turn, Book, same_native}
use Rattle.call_laws.proofs.Words.{AtRest, set_natives, Kept, end, last_after, time_after, IsWithin, in_window, estimated, total, turns_of, measured}
use Rattle.call_laws.proofs.Words.{values_of, OccAfter, placed_after, begins, ends, estimate_in, estimate_over, measure_over, values_over}
use Rattle.std.specs.Prelude.{if◌then◌else◌, slice_index, sum}
use Rattle.call_laws.proofs.Windows.{placed-drop, placed-take, weighed_is}

-- ---- the time of a window

ends_is : (before : Option Occ) (os : List Occ) → ends (time_after before) (placed_after before os) ≡ time_after (last_after before os)
ends_is before [] = refl
ends_is before (o ∷ os) = ends_is (Some o) os

-- the occurrence before a window
abbrev before_window : List Occ → Kept → Option Occ
before_window past s = last_after None (take s.from past)

-- the occurrences of a window, each with the one before it
placed_window : (past : List Occ) (s : Kept) → in_window s (placed_after None past) ≡ placed_after (before_window past s) (in_window s past)
placed_window past s = grind (arith, nat_tests, placed-drop, placed-take)

-- the past up to the window's end is what came before it, and then the window
to_end : (past : List Occ) (s : Kept) → IsWithin (length past) s → take (end (length past) s) past ≡ take s.from past ++ in_window s past
to_end past s h = go s.running where
  go : (b : Bool) → take (if b then length past else s.to) past ≡ take s.from past ++ (if b then drop s.from past else take (s.to - s.from) (drop s.from past))
  go true = take-length past ∙ sym (take-append-drop s.from past)
  go false =
      let a = h.in_order in
      ap (λ n. take n past) (let e : s.to ≡ s.from + (s.to - s.from) = omega (arith, a) in e) ∙ take-add s.from (s.to - s.from) past

total_is : (past : List Occ) (s : Kept) → IsWithin (length past) s
    → total past s ≡ time_after (last_after (before_window past s) (in_window s past)) - time_after (before_window past s)
total_is past s h = grind (arith, nat_tests, to_end, last-append)

-- ---- estimates

estimate-none : (total active : ℕ) → estimate 0 total active ≡ 0
estimate-none total active = grind (arith, nat_tests, zero-mul, zero-div)

-- the estimate of one native event, if the window and the one before it are given
estimate_placed : (s : AtRest) (before : Option Occ) (os : List Occ) (n : Native) (slice count group : ℕ)
    → let turns : Turns = record { slice = slice; count = count; start = time_after before } in
    let time = time_after (last_after before os) - time_after before in
    estimate (sum (map (λ (p : OccAfter). weight_in_turn turns group n s.domain p.before p.occ) (placed_after before os))) time (active turns group time)
    ≡ estimate_in s (placed_after before os) n (record { slice = slice; count = count; start = begins (placed_after before os) }) group
estimate_placed s before [] n slice count group =
    estimate-none (time_after before - time_after before) (active (record { slice = slice; count = count; start = time_after before }) group (time_after before - time_after before)) ∙ sym (estimate-none (0 - 0) (active (record { slice = slice; count = count; start = 0 }) group (0 - 0)))
estimate_placed s before (o ∷ os) n slice count group =
    let turns : Turns = record { slice = slice; count = count; start = time_after before } in
    ap (λ time. estimate (sum (map (λ (p : OccAfter). weight_in_turn turns group n s.domain p.before p.occ) (placed_after before (o ∷ os)))) (time - time_after before) (active turns group (time - time_after before)))
    (sym (ends_is before (o ∷ os)))

estimated_is : (book : Book) (past : List Occ) (s : Kept) (slice : ℕ) (n : Native) → IsWithin (length past) s
    → estimated book past s slice n ≡ estimate_over book s.set slice (in_window s (placed_after None past)) n
estimated_is book past s slice n h =
    let numbers = groups (masks_of (set_natives book s.set)) in
    let group = slice_index numbers (position_or_len (same_native n) (set_natives book s.set)) in
    let turns = turns_of slice numbers past s in
    ap₂ (λ (w time : ℕ). estimate w time (active turns group time))
    (weighed_is (weight_in_turn turns group n s.set.domain) past s ∙ ap (λ ps. sum (map (λ (p : OccAfter). weight_in_turn turns group n s.set.domain p.before p.occ) ps)) (placed_window past s))
    (total_is past s h)
    ∙ estimate_placed s.set (before_window past s) (in_window s past) n slice turns.count group
    ∙ ap (λ ps. estimate_over book s.set slice ps n) (sym (placed_window past s))

-- ---- values

map-same : {X Y : Type 0} (f g : X → Y) (xs : List X) → ((x : X) → f x ≡ g x) → map f xs ≡ map g xs
map-same f g [] h = refl
map-same f g (x ∷ xs) h = ap₂ (λ y ys. y ∷ ys) (h x) (map-same f g xs h)

measured_is : (book : Book) (past : List Occ) (s : Kept) (slice : Option ℕ) (n : Native) → IsWithin (length past) s
    → measured slice book past s n ≡ measure_over slice book s.set (in_window s (placed_after None past)) n
measured_is book past s None n h = weighed_is (weight_of n s.set.domain) past s
measured_is book past s (Some slice) n h = estimated_is book past s slice n h

-- the values of a set are those over its window
pub values_are : (book : Book) (past : List Occ) (s : Kept) → IsWithin (length past) s → values_of book past s ≡ values_over book s.set (in_window s (placed_after None past))
values_are book past s h = grind (arith, nat_tests, map-same, measured_is)
