-- What one occurrence does to what is kept.
use Rattle.std.specs.Prelude.{ℕ, ◌+◌, ◌-◌, ◌==◌, if◌then◌else◌, List, [], ◌∷◌, map, length, slice_get, slice_set, Option, Some, None}
use Rattle.std.specs.Option.{option_map}
use Rattle.papi_base.specs.declared.occurrence.Occ.{Occ}
use Rattle.papi_base.specs.declared.native.Native.{Native}
use Rattle.papi_base.specs.declared.bits.Domain.{Domain}
use Rattle.papi_base.specs.Weight.{weight_of}
use Rattle.multiplex.specs.Turns.{group_at}
use Rattle.counter_unit.specs.Counting.{UnitView, all_moved, all_carries, bits_of}
use Rattle.overflow_dispatch.specs.Passing.{carried_from}
use Rattle.session_model.specs.Faces.{at}
use Rattle.thread_slots.specs.declared.slot.Counting.{Counting}
use Rattle.thread_slots.specs.declared.slot.Counting.TheVariants as counting
use Rattle.thread_slots.specs.declared.slot.Slot.{Slot}
use Rattle.thread_slots.specs.Slots.{face_of_slot}
use Rattle.thread_slots.specs.Units.{owner_from}

-- what is left of a unit and of a set, and the events whose thresholds were passed
pub record Counted : Type 0 where
  pub unit : UnitView
  pub slot : Slot
  pub passed : List ℕ

-- the counters that carry
abbrev pub carry_of : Option Occ → Occ → UnitView → ℕ
carry_of before o unit = bits_of (all_carries before o unit.widths unit.registers)

-- each count and what its native adds, if its group is the one that runs
abbrev pub with_turn : Domain → Option Occ → Occ → ℕ → List Native → List ℕ → List ℕ → List ℕ
with_turn d before o group [] numbers counts = []
with_turn d before o group (n ∷ ns) [] counts = []
with_turn d before o group (n ∷ ns) (g ∷ gs) [] = []
with_turn d before o group (n ∷ ns) (g ∷ gs) (k ∷ ks) = (k + (if group == g then weight_of n d before o else 0)) ∷ with_turn d before o group ns gs ks

-- a stopped set counts nothing, another on the unit, or in its turns
abbrev pub counted_in : Option Occ → Occ → UnitView → Slot → Counting → Counted
counted_in before o unit slot (counting.Stopped kept) = record { unit = unit; slot = slot; passed = [] }
counted_in before o unit slot (counting.OnUnit pins armed places) = record {
  unit = record unit { registers = all_moved before o unit.widths unit.registers };
  slot = slot;
  passed = carried_from 0 (carry_of before o unit) armed;
}
counted_in before o unit slot (counting.InTurns r begun kept) = record {
  unit = unit;
  slot = record slot {
    counting = counting.InTurns r begun (with_turn slot.set.rest.domain before o (group_at r.turns (o.stamp - begun)) slot.set.natives r.numbers kept);
  };
  passed = [];
}

-- a set, on the unit of its component
abbrev pub counted : Option Occ → Occ → UnitView → Slot → Counted
counted before o unit slot = counted_in before o unit slot slot.counting

-- what is under a number
pub record CountedPlace : Type 0 where
  pub unit : UnitView
  pub place : Option Slot
  pub passed : List ℕ

-- nothing counts if there is no set
abbrev pub counted_place : Option Occ → Occ → UnitView → Option Slot → CountedPlace
counted_place before o unit None = record { unit = unit; place = None; passed = [] }
counted_place before o unit (Some slot) = record {
  unit = (counted before o unit slot).unit;
  place = Some (counted before o unit slot).slot;
  passed = (counted before o unit slot).passed;
}

-- all units and all sets, with the passed thresholds and the number of their set, 0 if there are none
pub record CountedAll : Type 0 where
  pub units : List UnitView
  pub slots : List (Option Slot)
  pub set : ℕ
  pub passed : List ℕ

-- nothing counted
abbrev pub uncounted : List UnitView → List (Option Slot) → CountedAll
uncounted units slots = record { units = units; slots = slots; set = 0; passed = [] }

-- what is under one number counted, on the unit of one component
abbrev pub placed : ℕ → ℕ → List UnitView → List (Option Slot) → CountedPlace → CountedAll
placed comp number units slots c = record {
  units = slice_set units comp c.unit;
  slots = slice_set slots number c.place;
  set = if length c.passed == 0 then 0 else number;
  passed = c.passed;
}

-- if the component has a unit
abbrev pub counted_at : Option Occ → Occ → List UnitView → List (Option Slot) → ℕ → Option UnitView → CountedAll
counted_at before o units slots number None = uncounted units slots
counted_at before o units slots number (Some unit) = placed o.comp number units slots (counted_place before o unit (at slots number))

-- if a set runs on the component
abbrev pub counted_over : Option Occ → Occ → List UnitView → List (Option Slot) → Option ℕ → CountedAll
counted_over before o units slots None = uncounted units slots
counted_over before o units slots (Some number) = counted_at before o units slots number (slice_get units o.comp)

-- only the set that runs on the occurrence's component counts
abbrev pub counted_all : Option Occ → Occ → List UnitView → List (Option Slot) → CountedAll
counted_all before o units slots = counted_over before o units slots (owner_from o.comp 0 (map (option_map face_of_slot) slots))
