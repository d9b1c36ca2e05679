-- Groups that take turns, slice by slice, and what is estimated of counts that were taken in turns: PAPI_set_multiplex(3).
-- Time is counted in ticks, as this project defines them.
use Rattle.std.specs.Prelude.{ℕ, ◌-◌, ◌*◌, ◌/◌, ◌%◌, Bool, ◌==◌, if◌then◌else◌, count_by, Option}
use Rattle.std.specs.List.{range_with_len}
use Rattle.papi_base.specs.declared.occurrence.Occ.{Occ}
use Rattle.papi_base.specs.declared.native.Native.{Native}
use Rattle.papi_base.specs.declared.bits.Domain.{Domain}
use Rattle.papi_base.specs.Weight.{weight_of}

-- how groups take turns: the length of a slice in ticks, the number of groups, and the time of tick 0
pub record Turns : Type 0 where
  pub slice : ℕ
  pub count : ℕ
  pub start : ℕ

-- the group that a tick belongs to: slice s of the time runs group s modulo their number
abbrev pub group_at : Turns → ℕ → ℕ
group_at turns tick = tick / turns.slice % turns.count

-- the tick belongs to the group
abbrev pub has_turn : Turns → ℕ → ℕ → Bool
has_turn turns group tick = group_at turns tick == group

-- the number of ticks below the total that belong to the group
abbrev pub active : Turns → ℕ → ℕ → ℕ
active turns group total = count_by (has_turn turns group) (range_with_len 0 total)

-- what an occurrence adds to a native event of the group
abbrev pub weight_in_turn : Turns → ℕ → Native → Domain → Option Occ → Occ → ℕ
weight_in_turn turns group n d before o = if has_turn turns group (o.stamp - turns.start) then weight_of n d before o else 0

-- what the whole time would have counted, as far as the active time tells
abbrev pub estimate : ℕ → ℕ → ℕ → ℕ
estimate count total active = if active == 0 then 0 else count * total / active
