-- What is left of the counts of a set that are zeroed: PAPI_reset(3).
use Rattle.std.specs.Prelude.{ℕ, List, length, replicate, slice_get, slice_set, Option, Some, None}
use Rattle.papi_base.specs.declared.bits.Domain.{Domain}
use Rattle.counter_unit.specs.Counting.{UnitView}
use Rattle.thread_slots.specs.declared.pins.Pin.{Pin}
use Rattle.thread_slots.specs.declared.slot.Counting.{Counting}
use Rattle.thread_slots.specs.declared.slot.Counting.TheVariants as counting
use Rattle.thread_slots.specs.declared.slot.Slot.{Slot}
use Rattle.thread_slots.specs.Changed.{at_zero}
use Rattle.thread_slots.specs.Pinned.{programs}

-- nothing has been counted by n natives; turns begin at this time
abbrev pub zeroed_in : ℕ → ℕ → Counting → Counting
zeroed_in now natives (counting.Stopped kept) = at_zero natives
zeroed_in now natives (counting.OnUnit pins armed places) = counting.OnUnit pins armed places
zeroed_in now natives (counting.InTurns r begun kept) = counting.InTurns r now (replicate natives 0)

-- the set, which has counted nothing
abbrev pub zeroed_slot : ℕ → Slot → Slot
zeroed_slot now slot = record slot { counting = zeroed_in now (length slot.set.natives) slot.counting }

-- each pin's register is at its beginning
abbrev pub zeroed_unit : Domain → List Pin → UnitView → UnitView
zeroed_unit domain pins unit = record unit { registers = programs unit.widths domain (λ n. 0) pins unit.registers }

-- if the component has a unit
abbrev pub zeroed_at : Domain → List Pin → List UnitView → ℕ → Option UnitView → List UnitView
zeroed_at domain pins units comp None = units
zeroed_at domain pins units comp (Some unit) = slice_set units comp (zeroed_unit domain pins unit)

-- if the set has a component
abbrev pub zeroed_on : Domain → List Pin → List UnitView → Option ℕ → List UnitView
zeroed_on domain pins units None = units
zeroed_on domain pins units (Some comp) = zeroed_at domain pins units comp (slice_get units comp)

-- the unit of a set that is on it changes
abbrev pub zeroed_units_in : Slot → List UnitView → Counting → List UnitView
zeroed_units_in slot units (counting.Stopped kept) = units
zeroed_units_in slot units (counting.OnUnit pins armed places) = zeroed_on slot.set.rest.domain pins units slot.set.rest.component
zeroed_units_in slot units (counting.InTurns r begun kept) = units

-- all units, of which no other changes
abbrev pub zeroed_units : Slot → List UnitView → List UnitView
zeroed_units slot units = zeroed_units_in slot units slot.counting
