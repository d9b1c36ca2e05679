-- What each set keeps is kept by its changes.
use Rattle.event_sets.proofs.Words.{◌≡◌, ℕ, ◌<◌, ◌≤◌, false, List, [], ◌∷◌, refl, subst, arith, rules, slice_index, slice_set, Option, Some, None}
use Rattle.event_sets.proofs.Words.{length-set, All, is_some, if◌then◌else◌, nat_lt, list_any, nat_tests, common_steps, bit_at-zero, length-map}
use Rattle.event_sets.proofs.Words.{slice_get_within, Native, Assignable, Has, masks_of, MatchingView, is_armed, is_bad_domain, is_bad_slice}
use Rattle.event_sets.proofs.Words.{is_other, IsMatched, IsShared, IsSound, SetView}
use Rattle.event_sets.proofs.Agreeing.{by_number, not_other}
use Rattle.event_sets.proofs.Sublists.{mask_at}

-- ---- another domain

pub domain_sound : (bits : ℕ) (s : SetView) → is_bad_domain bits ≡ false → IsSound s → IsSound (record s { rest = record (s.rest) { domain = record { 0 = bits } } })
domain_sound bits s good h = assumption

-- ---- a slice

-- a native with a counter of its own is allowed one
some_allowed : (natives : List Native) → Assignable (masks_of natives) → All (λ n. 0 < n.allowed) natives
some_allowed natives a = by_number (λ n. 0 < n.allowed) natives
    (λ i n e. positive n.allowed (slice_index a.0 i) (subst (λ m. Has m (slice_index a.0 i)) (mask_at natives i n e) (a.1.is_allowed i (omega (arith, slice_get_within natives i n e, length-map natives (λ n. n.allowed)))))) where
      positive : (m c : ℕ) → Has m c → 0 < m
      positive m c e = grind (arith, bit_at-zero)

none_armed : (ts : List ℕ) → list_any (λ t. nat_lt 0 t) ts ≡ false → All (λ t. t ≡ 0) ts
none_armed [] h = search rules
none_armed (t ∷ ts) h = grind (arith, nat_tests, common_steps, none_armed ts)

pub sliced_sound : (slice : ℕ) (s : SetView) → is_bad_slice slice ≡ false → is_armed s.rest ≡ false → IsSound s → IsSound (record s { rest = record (s.rest) { slice = Some slice } })
sliced_sound slice s good unarmed h = assumption (assignable, shared) where
  assignable : Some slice ≡ None → Assignable (masks_of s.natives)
  assignable is = cc

  counters : (o : Option ℕ) → s.rest.slice ≡ o → All (λ n. 0 < n.allowed) s.natives
  counters None is = some_allowed s.natives (h.assignable is)
  counters (Some old) is = (h.shared old is).some_counter

  shared : (other : ℕ) → Some slice ≡ Some other → IsShared other s.natives s.rest.thresholds
  shared other is =
      let same : slice ≡ other = cc in
      record { good_slice = subst (λ k. is_bad_slice k ≡ false) same good; some_counter = counters s.rest.slice refl; no_thresholds = none_armed s.rest.thresholds unarmed }

-- ---- a component

-- a set without a component has no natives
pub no_natives : (s : SetView) → IsSound s → s.rest.component ≡ None → s.natives ≡ []
no_natives s h none = go s.natives h.owned where
  go : (ns : List Native) → All (λ n. s.rest.component ≡ Some n.comp) ns → ns ≡ []
  go [] h = refl
  go (n ∷ ns) h = let some : s.rest.component ≡ Some n.comp = h 0 n (omega arith) in cc

abbrev pub assigned : ℕ → ℕ → SetView → SetView
assigned comp counters s = record s { rest = record (s.rest) { component = Some comp }; counters = counters }

pub assigned_sound : (comp counters : ℕ) (s : SetView) → is_other s.rest.component (Some comp) ≡ false → counters ≤ 32
    → (s.rest.component ≡ Some comp → s.counters ≡ counters) → IsSound s → IsSound (assigned comp counters s)
assigned_sound comp counters s own few same h = grind (arith, nat_tests, not_other, no_natives)

-- its matching is the one that is kept, or a new one if no component was fixed
pub assigned_matched : (comp counters : ℕ) (s : SetView) (kept : MatchingView) → is_other s.rest.component (Some comp) ≡ false
    → (s.rest.component ≡ Some comp → s.counters ≡ counters) → IsSound s → IsMatched s kept
    → IsMatched (assigned comp counters s) (if is_some s.rest.component then kept else record { counters = counters; allowed = [] })
assigned_matched comp counters s kept own same h matched = grind (arith, nat_tests, not_other, no_natives)

-- ---- a threshold

pub armed_sound : (p t : ℕ) (s : SetView) → s.rest.slice ≡ None → IsSound s → IsSound (record s { rest = record (s.rest) { thresholds = slice_set s.rest.thresholds p t } })
armed_sound p t s alone h = grind (arith, nat_tests, length-set)
