-- The numbers and the values that are shown of what is kept: PAPI_read(3).
use Rattle.std.specs.Prelude.{All, ℕ, ℤ, ◌-◌, ◌*◌, ◌^◌, ◌≡◌, ◌<◌, ◌≤◌}
use Rattle.std.specs.Prelude.{List, [], ◌∷◌, length, map, slice_get, slice_index, Option, Some, None}
use Rattle.std.specs.Option.{option_and_then}
use Rattle.std.specs.List.{position_or_len}
use Rattle.papi_base.specs.declared.native.Native.{Native}
use Rattle.papi_base.specs.declared.limits.TheConstants.{LARGEST_AMOUNT}
use Rattle.counter_unit.specs.Counting.{UnitView, count_on}
use Rattle.multiplex.specs.Rotations.{RotationView}
use Rattle.multiplex.specs.Turns.{Turns, active, estimate}
use Rattle.postfix_rules.specs.Presets.{Book, event_value}
use Rattle.postfix_rules.specs.Sameness.{same_native}
use Rattle.postfix_rules.specs.Fitting.{IsHeld}
use Rattle.thread_slots.specs.declared.pins.Pin.{Pin}
use Rattle.thread_slots.specs.declared.slot.Counting.{Counting}
use Rattle.thread_slots.specs.declared.slot.Counting.TheVariants as counting
use Rattle.thread_slots.specs.declared.slot.Slot.{Slot}
use Rattle.thread_slots.specs.declared.values.TheConstants.{NUMBER_BITS}
use Rattle.thread_slots.specs.EventPlaces.{places_of}
use Rattle.thread_slots.specs.Pinned.{HasUnit}

-- the count on each pin's counter
abbrev pub pin_numbers : UnitView → List Pin → List ℕ
pin_numbers unit pins = map (λ p. count_on unit p.counter) pins

-- the estimate of each count in turns
abbrev pub turn_numbers : Turns → ℕ → List ℕ → List ℕ → List ℕ
turn_numbers turns total [] counts = []
turn_numbers turns total (g ∷ gs) [] = []
turn_numbers turns total (g ∷ gs) (k ∷ ks) = estimate k total (active turns g total) ∷ turn_numbers turns total gs ks

-- on its unit; a set without a component has no natives
abbrev pub unit_numbers : Option UnitView → List Pin → List ℕ
unit_numbers None pins = []
unit_numbers (Some unit) pins = pin_numbers unit pins

-- what was kept, the counts on the unit, or the estimates
abbrev pub numbers_in : List UnitView → ℕ → Slot → Counting → List ℕ
numbers_in units time slot (counting.Stopped kept) = kept
numbers_in units time slot (counting.OnUnit pins armed places) = unit_numbers (option_and_then (slice_get units) slot.set.rest.component) pins
numbers_in units time slot (counting.InTurns r begun kept) = turn_numbers r.turns (time - begun) r.numbers kept

-- what each native counted, or is estimated to have, at this time
abbrev pub numbers_shown : List UnitView → ℕ → Slot → List ℕ
numbers_shown units time slot = numbers_in units time slot slot.counting

-- the number of a native
abbrev pub number_in : List Native → List ℕ → Native → ℕ
number_in natives numbers n = slice_index numbers (position_or_len (same_native n) natives)

-- the value of each event
abbrev pub values_shown : Book → List UnitView → ℕ → Slot → List ℤ
values_shown book units time slot = map (event_value book (number_in slot.set.natives (numbers_shown units time slot))) slot.set.rest.events

-- a set on its unit keeps the places of its events
abbrev pub IsPlaced : Book → Slot → Type 0
IsPlaced book slot = (pins : List Pin) (armed : List (Option ℕ)) (places : List ℕ) → slot.counting ≡ counting.OnUnit pins armed places → places ≡ places_of book slot.set.natives slot.set.rest.events

-- natives that take turns: none counted more than its ticks allow
pub record IsInTurns (time : ℕ) (r : RotationView) (begun : ℕ) (kept : List ℕ) : Type 0 where
  pub began : begun ≤ time
  pub short : time < 2 ^ 32
  pub same_length : length kept ≡ length r.numbers
  pub counts : (k : ℕ) → k < length kept → slice_index kept k ≤ LARGEST_AMOUNT * active r.turns (slice_index r.numbers k) (time - begun)

-- the numbers of the set can be told
pub record IsMeasurable (units : List UnitView) (slot : Slot) (time : ℕ) : Type 0 where
  pub has_unit : HasUnit units slot
  pub in_turns : (r : RotationView) (begun : ℕ) (kept : List ℕ) → slot.counting ≡ counting.InTurns r begun kept → IsInTurns time r begun kept

-- so can the values of its events
pub record IsTellable (book : Book) (units : List UnitView) (time : ℕ) (slot : Slot) : Type 0 where
  pub measurable : IsMeasurable units slot time
  pub same_length : length (numbers_shown units time slot) ≡ length slot.set.natives
  pub small : All (λ t. t < 2 ^ NUMBER_BITS) (numbers_shown units time slot)
  pub held : All (IsHeld book) slot.set.rest.events
  pub placed : IsPlaced book slot
