-- What a matching is to its callers, and what it keeps.
use Rattle.std.specs.Prelude.{◌≡◌, ℕ, ◌^◌, ◌<◌, ◌≤◌, List, length, take, slice_index}
use Rattle.papi_base.specs.declared.limits.TheConstants.{MOST_COUNTERS, MOST_SET_NATIVES}
use Rattle.counter_alloc.specs.Assignments.{IsAssignment}

-- the number of counters, and the counters allowed to each place
pub record MatchingView : Type 0 where
  pub counters : ℕ
  pub allowed : List ℕ

-- the first `count` places have counters of their own
pub record IsMatching (counters count : ℕ) (allowed chosen : List ℕ) : Type 0 where
  pub few_counters : counters ≤ MOST_COUNTERS
  pub few_places : count ≤ MOST_SET_NATIVES
  pub allowed_slots : length allowed ≡ MOST_SET_NATIVES
  pub chosen_slots : length chosen ≡ MOST_SET_NATIVES
  pub in_range : (i : ℕ) → i < count → slice_index allowed i < 2 ^ counters
  pub assigned : IsAssignment (take count allowed) (take count chosen)
