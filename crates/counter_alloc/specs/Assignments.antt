-- Assignments of distinct allowed counters to the places of a list of native events, and the sets of places that rule
-- one out, after Hall's theorem. A set that has none is PAPI_ECNFLCT of PAPI_add_event(3).
use Rattle.std.specs.Prelude.{◌≡◌, ℕ, ◌+◌, ◌^◌, ◌<◌, ◌≤◌, ◌==◌, if◌then◌else◌, List, [], ◌∷◌, length, take, slice_index, bit_or, count_ones}
use Rattle.std.specs.Int.{bit_at}

-- k is a member of the bit set
abbrev pub Has : ℕ → ℕ → Type 0
Has set k = bit_at set k ≡ 1

-- a choice of one allowed counter for each place, no counter for two places
pub record IsAssignment (allowed chosen : List ℕ) : Type 0 where
  pub one_each : length chosen ≡ length allowed
  pub is_allowed : (i : ℕ) → i < length allowed → Has (slice_index allowed i) (slice_index chosen i)
  pub distinct : (i j : ℕ) → i < length allowed → j < length allowed → slice_index chosen i ≡ slice_index chosen j → i ≡ j

-- some choice of counters is an assignment
abbrev pub Assignable : List ℕ → Type 0
Assignable allowed = (chosen : List ℕ) × IsAssignment allowed chosen

-- compared place by place, the first is not above the second: at the first place where they differ it has the lower counter
abbrev pub AtOrBefore : List ℕ → List ℕ → Type 0
AtOrBefore first second =
    (k : ℕ) → k < length first → ((i : ℕ) → i < k → slice_index first i ≡ slice_index second i) → slice_index first k ≤ slice_index second k

-- the assignment that comes before all others
pub record IsLeast (allowed chosen : List ℕ) : Type 0 where
  pub is_assignment : IsAssignment allowed chosen
  pub comes_first : (other : List ℕ) → IsAssignment allowed other → AtOrBefore chosen other

-- the counters allowed to some member, if the list begins at this place
abbrev pub counters_from : ℕ → List ℕ → ℕ → ℕ
counters_from place [] members = 0
counters_from place (mask ∷ masks) members =
    bit_or (if bit_at members place == 1 then mask else 0) (counters_from (place + 1) masks members)

-- the counters allowed to some member
abbrev pub counters_of : List ℕ → ℕ → ℕ
counters_of allowed members = counters_from 0 allowed members

-- a set of places with more members than there are counters allowed to any member
pub record Deficient (allowed : List ℕ) (members : ℕ) : Type 0 where
  pub are_places : members < 2 ^ length allowed
  pub short_of_counters : count_ones (counters_of allowed members) < count_ones members

-- a deficient set that lies in every deficient set
pub record IsLeastDeficient (allowed : List ℕ) (members : ℕ) : Type 0 where
  pub is_deficient : Deficient allowed members
  pub in_each : (s : ℕ) → Deficient allowed s → (place : ℕ) → Has members place → Has s place

-- the length of the shortest prefix that is not assignable
pub record IsShortestPrefix (allowed : List ℕ) (n : ℕ) : Type 0 where
  pub within : n ≤ length allowed
  pub not_assignable : Assignable (take n allowed) → ⊥
  pub shorter : (m : ℕ) → m < n → Assignable (take m allowed)
