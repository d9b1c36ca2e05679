-- What is kept of a set that starts: PAPI_start(3).
use Rattle.std.specs.Prelude.{ℕ, suc, ◌≡◌, ◌<◌, ◌≤◌, List, length, replicate, slice_get, slice_index, Option, Some, None}
use Rattle.papi_base.specs.declared.native.Native.{Native}
use Rattle.papi_base.specs.declared.native.EventRef.{EventRef}
use Rattle.counter_alloc.specs.Masks.{masks_of}
use Rattle.counter_unit.specs.Counting.{UnitView}
use Rattle.multiplex.specs.Groups.{groups}
use Rattle.postfix_rules.specs.Presets.{Book}
use Rattle.thread_slots.specs.declared.slot.Counting.TheVariants as counting
use Rattle.thread_slots.specs.declared.slot.Slot.{Slot}
use Rattle.papi_base.specs.Widths.{AreWidths}
use Rattle.papi_base.specs.declared.limits.TheConstants.{MOST_COUNTERS, MOST_SET_EVENTS}
use Rattle.event_sets.specs.Assigning.{counters_for}
use Rattle.event_sets.specs.AtRest.{set_natives}
use Rattle.thread_slots.specs.Pinned.{ArePinned, armed_of, pins_of, place_of_lead, programs}
use Rattle.thread_slots.specs.EventPlaces.{places_of}
use Rattle.thread_slots.specs.Slots.{rotation_of}

-- a unit and a set that started on it
pub record Started : Type 0 where
  pub unit : UnitView
  pub slot : Slot

-- a set that starts at this time: on the unit, or in turns
abbrev pub begun_by : Book → ℕ → UnitView → Slot → Option ℕ → Started
begun_by book now unit slot None = record {
  unit = record unit { registers = programs unit.widths slot.set.rest.domain (λ n. 0) (pins_of book slot.set.rest) unit.registers };
  slot = record slot { counting = counting.OnUnit (pins_of book slot.set.rest) (armed_of book slot.set.rest) (places_of book slot.set.natives slot.set.rest.events) };
}
begun_by book now unit slot (Some slice) = record {
  unit = unit;
  slot = record slot { counting = counting.InTurns (rotation_of (groups (masks_of slot.set.natives)) slice) now (replicate (length slot.set.natives) 0) };
}

-- by whether its natives take turns
abbrev pub begun : Book → ℕ → UnitView → Slot → Started
begun book now unit slot = begun_by book now unit slot slot.set.rest.slice

-- each event with a threshold has a counter that can be watched
pub record IsArmable (book : Book) (natives : List Native) (counters : List ℕ) (events : List EventRef) (thresholds : List ℕ) : Type 0 where
  pub few_events : length events ≤ MOST_SET_EVENTS
  pub one_each : length thresholds ≡ length events
  pub exist : (k t : ℕ) (e : EventRef) → slice_get events k ≡ Some e → slice_get thresholds k ≡ Some (suc t)
      → place_of_lead book natives e < length counters
  pub small : (k t : ℕ) (e : EventRef) → slice_get events k ≡ Some e → slice_get thresholds k ≡ Some (suc t)
      → slice_index counters (place_of_lead book natives e) < MOST_COUNTERS

-- the set can start on the unit
pub record IsStartable (book : Book) (unit : UnitView) (slot : Slot) : Type 0 where
  pub natives : slot.set.natives ≡ set_natives book slot.set.rest
  pub counters : slot.set.counters ≡ length unit.widths
  pub some : 0 < length slot.set.natives
  pub few : length unit.widths ≤ MOST_COUNTERS
  pub widths : AreWidths unit.widths
  pub placed : slot.set.rest.slice ≡ None → length (counters_for (set_natives book slot.set.rest)) ≡ length (set_natives book slot.set.rest)
  pub pinned : slot.set.rest.slice ≡ None → ArePinned unit.widths (pins_of book slot.set.rest)
  pub armable : slot.set.rest.slice ≡ None
      → IsArmable book (set_natives book slot.set.rest) (counters_for (set_natives book slot.set.rest)) slot.set.rest.events slot.set.rest.thresholds
