-- What a unit keeps: 32 places, of which the first are registers of the stated widths as they begin, what they are now, and which
-- of them each occurrence can move.
use Rattle.std.specs.Prelude.{ℕ, ◌+◌, ◌-◌, ◌^◌, ◌<◌, ◌≤◌, ◌≡◌, if◌then◌else◌, nat_le, List, [], ◌∷◌, length, slice_index, take, Option, Some, None}
use Rattle.papi_base.specs.Widths.{AreWidths}
use Rattle.papi_base.specs.declared.limits.TheConstants.{MOST_COUNTERS}
use Rattle.counter_unit.specs.declared.registers.Register.{Register}
use Rattle.counter_unit.specs.declared.selects.Selects.{Selects}
use Rattle.counter_unit.specs.Counting.{IsThreshold, at_place, beginning, wrapped}
use Rattle.counter_unit.specs.Selects.{AreSelects}

-- for each counter the values of its register
pub record AreRooms (widths rooms : List ℕ) : Type 0 where
  pub long : length rooms ≡ MOST_COUNTERS
  pub each : (c : ℕ) → c < length widths → slice_index rooms c ≡ 2 ^ slice_index widths c

-- a register that began so and now has this value: the base is what its carries took, less its beginning
abbrev pub place_now : Option Register → ℕ → ℕ → Option Register
place_now None value base = None
place_now (Some r) value base = Some (record r { value = value; bank = wrapped (base + r.value) })

-- the same of each place
abbrev pub places_now : List (Option Register) → List ℕ → List ℕ → List (Option Register)
places_now [] values bases = []
places_now (r ∷ rs) [] bases = []
places_now (r ∷ rs) (v ∷ vs) [] = []
places_now (r ∷ rs) (v ∷ vs) (b ∷ bs) = place_now r v b ∷ places_now rs vs bs

-- where the register of a place begins
abbrev pub beginning_at : Option Register → ℕ
beginning_at None = 0
beginning_at (Some r) = r.value

-- a register with this room, after this is added: a carry takes it back by its period, from where it begins to the end
abbrev pub value_after : ℕ → ℕ → ℕ → ℕ → ℕ
value_after room first value more = if nat_le room (value + more) then value + more - (room - first) else value + more

-- and its base, which has the period then
abbrev pub base_after : ℕ → ℕ → ℕ → ℕ → ℕ → ℕ
base_after room first value base more = if nat_le room (value + more) then wrapped (base + (room - first)) else base

-- what is programmed has a threshold that fits, and is at its beginning
abbrev pub IsBegun : ℕ → Option Register → Type 0
IsBegun width None = Unit {0}
IsBegun width (Some r) = IsThreshold width r.threshold × (r.value ≡ beginning width r.threshold) × (r.bank ≡ 0)

-- the value and the base of what is on a place, and both as they begin
pub record IsKept (width : ℕ) (r : Register) (value base first_value first_base : ℕ) : Type 0 where
  pub threshold : IsThreshold width r.threshold
  pub begins : r.value ≡ beginning width r.threshold
  pub above : r.value ≤ value
  pub below : value < 2 ^ width
  pub again : first_value ≡ r.value
  pub nothing : wrapped (first_base + r.value) ≡ 0

-- all are 0 if nothing is programmed
pub record IsZero (value base first_value first_base : ℕ) : Type 0 where
  pub value_0 : value ≡ 0
  pub base_0 : base ≡ 0
  pub first_value_0 : first_value ≡ 0
  pub first_base_0 : first_base ≡ 0

abbrev pub IsKeptAt : ℕ → Option Register → ℕ → ℕ → ℕ → ℕ → Type 0
IsKeptAt width None value base first_value first_base = IsZero value base first_value first_base
IsKeptAt width (Some r) value base first_value first_base = IsKept width r value base first_value first_base

-- so it is of each counter
abbrev pub AreKept : List ℕ → List (Option Register) → List ℕ → List ℕ → List ℕ → List ℕ → Type 0
AreKept widths places values bases first_values first_bases = (c : ℕ) → c < length widths
    → IsKeptAt (slice_index widths c) (at_place places c) (slice_index values c) (slice_index bases c) (slice_index first_values c) (slice_index first_bases c)

-- what holds of a unit between calls
pub record IsUnit (widths : List ℕ) (places : List (Option Register)) (rooms values bases first_values first_bases : List ℕ) (tables : Selects) : Type 0 where
  pub few : length widths ≤ MOST_COUNTERS
  pub are_widths : AreWidths widths
  pub long : length places ≡ MOST_COUNTERS
  pub long_values : length values ≡ MOST_COUNTERS
  pub long_bases : length bases ≡ MOST_COUNTERS
  pub long_first_values : length first_values ≡ MOST_COUNTERS
  pub long_first_bases : length first_bases ≡ MOST_COUNTERS
  pub kept : AreKept widths (take (length widths) places) values bases first_values first_bases
  pub are_rooms : AreRooms widths rooms
  pub selects : AreSelects tables (take (length widths) places)
