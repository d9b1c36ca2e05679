-- What a rotation is to its callers, and what it keeps.
use Rattle.std.specs.Prelude.{◌+◌, ℕ, ◌*◌, ◌/◌, ◌%◌, ◌≡◌, ◌<◌, ◌≤◌, List, length, slice_index}
use Rattle.papi_base.specs.declared.limits.TheConstants.{MOST_SET_NATIVES}
use Rattle.multiplex.specs.Turns.{Turns}

-- the number of each place's group, how the groups take turns, and the time, which begins at 0
pub record RotationView : Type 0 where
  pub numbers : List ℕ
  pub turns : Turns
  pub time : ℕ

-- groups are in the order of their places
abbrev pub AreOrdered : List ℕ → Type 0
AreOrdered numbers = (j k : ℕ) → j ≤ k → k < length numbers → slice_index numbers j ≤ slice_index numbers k

-- the places of the group are those from the first one on that are below the end
pub record IsSpanOf (numbers : List ℕ) (group first end : ℕ) : Type 0 where
  pub rises : first ≤ end
  pub within : end ≤ length numbers
  pub own : (k : ℕ) → first ≤ k → k < end → slice_index numbers k ≡ group
  pub all : (k : ℕ) → k < length numbers → slice_index numbers k ≡ group → (first ≤ k) × (k < end)

-- a slice of the time begins at this tick, and the group of these places runs in it
pub record IsSliceOf (numbers : List ℕ) (slice count begin first end : ℕ) : Type 0 where
  pub begins : begin ≡ begin / slice * slice
  pub runs : IsSpanOf numbers (begin / slice % count) first end

-- each place has one of the groups, slices have ticks, and a slice is kept
pub record IsTurning (numbers : List ℕ) (count slice begin first end : ℕ) : Type 0 where
  pub below : (k : ℕ) → k < length numbers → slice_index numbers k < count
  pub ordered : AreOrdered numbers
  pub some_group : 0 < count
  pub few_groups : count ≤ MOST_SET_NATIVES + 1
  pub some_slice : 0 < slice
  pub kept : IsSliceOf numbers slice count begin first end
