-- Registers, what is added to them, and when they carry.
use Rattle.std.specs.Prelude.{ℕ, ◌+◌, ◌-◌, ◌*◌, ◌/◌, ◌%◌, ◌^◌, ◌≡◌, ◌<◌, ◌≤◌, ◌⊎◌, Bool, false, if◌then◌else◌, ◌==◌, nat_le}
use Rattle.std.specs.Prelude.{List, [], ◌∷◌, length, slice_index, slice_index_or, Option, Some, None}
use Rattle.std.specs.Option.{option_map, option_map_or}
use Rattle.papi_base.specs.declared.occurrence.Occ.{Occ}
use Rattle.papi_base.specs.declared.native.Native.{Native}
use Rattle.papi_base.specs.declared.bits.Domain.{Domain}
use Rattle.papi_base.specs.Weight.{weight_of}
use Rattle.papi_base.specs.declared.limits.TheConstants.{LEAST_THRESHOLD}
use Rattle.counter_unit.specs.declared.registers.Register.{Register}

-- what contracts see of a unit: for each counter its width, and what is programmed on it, if anything
pub record UnitView : Type 0 where
  pub widths : List ℕ
  pub registers : List (Option Register)

-- a threshold is 0, for none, or from 256 up to the greatest value of a register
abbrev pub IsThreshold : ℕ → ℕ → Type 0
IsThreshold width threshold = (threshold ≡ 0) ⊎ ((LEAST_THRESHOLD ≤ threshold) × (threshold < 2 ^ width))

-- how much is counted from one carry to the next
abbrev pub period : ℕ → ℕ → ℕ
period width threshold = if threshold == 0 then 2 ^ width else threshold

-- where a register begins: so that it carries after one period
abbrev pub beginning : ℕ → ℕ → ℕ
beginning width threshold = 2 ^ width - period width threshold

-- the register at its beginning
abbrev pub begun : ℕ → Native → Domain → ℕ → Register
begun width n d threshold = record { native = n; domain = d; threshold = threshold; value = beginning width threshold; bank = 0 }

-- the same register once more at its beginning
abbrev pub begun_again : ℕ → Register → Register
begun_again width r = record r { value = beginning width r.threshold; bank = 0 }

-- the register carries when this is added
abbrev pub carries : ℕ → ℕ → Register → Bool
carries width more r = nat_le (2 ^ width) (r.value + more)

-- what a word of 64 bits keeps of a sum
abbrev pub wrapped : ℕ → ℕ
wrapped n = n % 2 ^ 64

-- the register after this is added: a carry takes a period away into the bank, and what is over is counted from the beginning
abbrev pub moved : ℕ → ℕ → Register → Register
moved width more r = record r {
  value = if carries width more r then beginning width r.threshold + (r.value + more - 2 ^ width) else r.value + more;
  bank = if carries width more r then wrapped (r.bank + period width r.threshold) else r.bank;
}

-- what was counted since the register began, in 64 bits: what was carried away, and what the register is above its beginning
abbrev pub whole : ℕ → Register → ℕ
whole width r = wrapped (r.bank + (r.value - beginning width r.threshold))

-- what is programmed on the counter, if it exists
abbrev pub at_place : List (Option Register) → ℕ → Option Register
at_place registers c = slice_index_or registers c None

-- a place after an occurrence, and whether its register carried
pub record After : Type 0 where
  pub place : Option Register
  pub carried : Bool

-- nothing counts if nothing is programmed
abbrev pub moved_place : Option Occ → Occ → ℕ → Option Register → After
moved_place before o width None = record { place = None; carried = false }
moved_place before o width (Some r) = record {
  place = Some (moved width (weight_of r.native r.domain before o) r);
  carried = carries width (weight_of r.native r.domain before o) r;
}

-- all places after an occurrence
abbrev pub all_moved : Option Occ → Occ → List ℕ → List (Option Register) → List (Option Register)
all_moved before o [] registers = []
all_moved before o (w ∷ ws) [] = []
all_moved before o (w ∷ ws) (r ∷ rs) = (moved_place before o w r).place ∷ all_moved before o ws rs

-- which of them carried
abbrev pub all_carries : Option Occ → Occ → List ℕ → List (Option Register) → List Bool
all_carries before o [] registers = []
all_carries before o (w ∷ ws) [] = []
all_carries before o (w ∷ ws) (r ∷ rs) = (moved_place before o w r).carried ∷ all_carries before o ws rs

-- all registers once more at their beginnings
abbrev pub all_begun_again : List ℕ → List (Option Register) → List (Option Register)
all_begun_again [] registers = []
all_begun_again (w ∷ ws) [] = []
all_begun_again (w ∷ ws) (r ∷ rs) = option_map (begun_again w) r ∷ all_begun_again ws rs

-- the truths of a list as the bits of a number, the first one lowest
abbrev pub bits_of : List Bool → ℕ
bits_of [] = 0
bits_of (b ∷ bs) = (if b then 1 else 0) + 2 * bits_of bs

-- each register moves by what the occurrence counts for it, and these counters carried, as bits
pub record Steps (before : Option Occ) (o : Occ) (old new : UnitView) (carried : ℕ) : Type 0 where
  pub registers : new ≡ record old { registers = all_moved before o old.widths old.registers }
  pub carries : carried ≡ bits_of (all_carries before o old.widths old.registers)

-- what is programmed has a threshold that fits, and is at its beginning or above
abbrev pub FitsWidth : ℕ → Option Register → Type 0
FitsWidth width None = Unit {0}
FitsWidth width (Some r) = IsThreshold width r.threshold × (beginning width r.threshold ≤ r.value) × (r.value < 2 ^ width)

-- so is each place, and there is one for each width
pub record FitWidths (widths : List ℕ) (registers : List (Option Register)) : Type 0 where
  pub same_length : length registers ≡ length widths
  pub each : (c : ℕ) → c < length widths → FitsWidth (slice_index widths c) (at_place registers c)

-- the register of a count: each multiple of the period was carried away
abbrev pub register_at : ℕ → Native → Domain → ℕ → ℕ → Register
register_at width n d threshold count = record {
  native = n;
  domain = d;
  threshold = threshold;
  value = beginning width threshold + count % period width threshold;
  bank = wrapped (count / period width threshold * period width threshold);
}

-- the count on a counter, 0 if nothing is programmed
abbrev pub count_on : UnitView → ℕ → ℕ
count_on unit c = option_map_or (whole (slice_index unit.widths c)) (at_place unit.registers c) 0
