-- What contracts see of a core.
use Rattle.std.specs.Prelude.{ℕ, Bool, false, List, map, replicate, Option, None}
use Rattle.papi_base.specs.declared.occurrence.Occ.{Occ}
use Rattle.papi_base.specs.declared.limits.TheConstants.{MOST_SETS}
use Rattle.counter_unit.specs.Counting.{UnitView}
use Rattle.event_sets.specs.AtRest.{Widths}
use Rattle.thread_slots.specs.declared.slot.Slot.{Slot}
use Rattle.thread_slots.specs.Units.{empty_unit}

-- The thread and whether it is registered; the unit's shape; under each number below MOST_SETS a set or none; the unit of each
-- component; how many occurrences were taken, and the last of them.
pub record CoreView : Type 0 where
  pub thread : ℕ
  pub registered : Bool
  pub shape : Widths
  pub slots : List (Option Slot)
  pub units : List UnitView
  pub taken : ℕ
  pub last : Option Occ

-- the same, part by part
abbrev pub core_of : ℕ → Bool → Widths → List (Option Slot) → List UnitView → ℕ → Option Occ → CoreView
core_of thread registered shape slots units taken last = record {
  thread = thread;
  registered = registered;
  shape = shape;
  slots = slots;
  units = units;
  taken = taken;
  last = last;
}

-- a new core
abbrev pub opening_core : ℕ → Widths → CoreView
opening_core thread shape = record {
  thread = thread;
  registered = false;
  shape = shape;
  slots = replicate MOST_SETS None;
  units = map empty_unit shape;
  taken = 0;
  last = None;
}
