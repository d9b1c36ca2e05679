-- When a running set can be counted on a unit.
use Rattle.std.specs.Prelude.{ℕ, ◌^◌, ◌≡◌, ◌<◌, All, length, List, Option, Some}
use Rattle.papi_base.specs.declared.native.Native.{Native}
use Rattle.counter_unit.specs.Counting.{UnitView}
use Rattle.multiplex.specs.Rotations.{RotationView}
use Rattle.session_model.specs.Faces.{at}
use Rattle.thread_slots.specs.declared.slot.Counting.TheVariants as counting
use Rattle.thread_slots.specs.declared.slot.Slot.{Slot}
use Rattle.thread_slots.specs.declared.values.TheConstants.{NUMBER_BITS}

-- natives that take turns: every count has room for one weight more
pub record IsTurn (natives : List Native) (r : RotationView) (kept : List ℕ) : Type 0 where
  pub room : All (λ t. t < 2 ^ NUMBER_BITS) kept
  pub same_length : length kept ≡ length natives
  pub grouped : length r.numbers ≡ length natives

-- a set whose natives take turns
pub record IsCountable (slot : Slot) : Type 0 where
  pub turning : (r : RotationView) (begun : ℕ) (kept : List ℕ) → slot.counting ≡ counting.InTurns r begun kept → IsTurn slot.set.natives r kept

-- the set under a number, on its component's unit
pub record AreCountable (units : List UnitView) (slots : List (Option Slot)) (comp number : ℕ) : Type 0 where
  pub has_unit : comp < length units
  pub has_place : number < length slots
  pub countable : (slot : Slot) → at slots number ≡ Some slot → IsCountable slot
