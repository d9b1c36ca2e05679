-- The native events of a running set on their counters, with the thresholds of their events: PAPI_start(3), PAPI_overflow(3).
use Rattle.std.specs.Prelude.{ℕ, ◌-◌, ◌≡◌, ◌<◌, ◌==◌, if◌then◌else◌}
use Rattle.std.specs.Prelude.{List, [], ◌∷◌, ◌++◌, length, replicate, slice_get, slice_index, slice_set, Option, Some, None}
use Rattle.std.specs.Option.{option_map_or}
use Rattle.std.specs.List.{position_or_len}
use Rattle.papi_base.specs.declared.native.Native.{Native}
use Rattle.papi_base.specs.declared.native.EventRef.{EventRef}
use Rattle.papi_base.specs.declared.bits.Domain.{Domain}
use Rattle.counter_unit.specs.declared.registers.Register.{Register}
use Rattle.papi_base.specs.Widths.{AreWidths}
use Rattle.papi_base.specs.declared.limits.TheConstants.{MOST_SET_EVENTS}
use Rattle.counter_unit.specs.Counting.{IsThreshold, UnitView, register_at}
use Rattle.postfix_rules.specs.Presets.{Book, lead}
use Rattle.postfix_rules.specs.Sameness.{same_native}
use Rattle.event_sets.specs.Assigning.{counters_for}
use Rattle.event_sets.specs.AtRest.{AtRest, set_natives}
use Rattle.session_model.specs.Registers.{threshold_among}
use Rattle.thread_slots.specs.declared.pins.Pin.{Pin}
use Rattle.thread_slots.specs.declared.slot.Counting.TheVariants as counting
use Rattle.thread_slots.specs.declared.slot.Slot.{Slot}

-- each native with its counter and its threshold
abbrev pub pins_from : Book → AtRest → List Native → List ℕ → List Pin
pins_from book s [] counters = []
pins_from book s (n ∷ ns) [] = []
pins_from book s (n ∷ ns) (c ∷ cs) = record { native = n; counter = c; threshold = threshold_among book n s.events s.thresholds } ∷ pins_from book s ns cs

-- the set's natives on the counters of their least assignment
abbrev pub pins_of : Book → AtRest → List Pin
pins_of book s = pins_from book s (set_natives book s) (counters_for (set_natives book s))

-- the place of an event's first native among the natives
abbrev pub place_of_lead : Book → List Native → EventRef → ℕ
place_of_lead book natives e = option_map_or (λ n. position_or_len (same_native n) natives) (lead book e) (length natives)

-- the counter that an event with a threshold is watched on
abbrev pub armed_event : Book → List Native → List ℕ → EventRef → ℕ → Option ℕ
armed_event book natives counters e threshold = if threshold == 0 then None else Some (slice_index counters (place_of_lead book natives e))

-- for each event the counter that is watched, if one is
abbrev pub armed_from : Book → List Native → List ℕ → List EventRef → List ℕ → List (Option ℕ)
armed_from book natives counters [] thresholds = []
armed_from book natives counters (e ∷ es) [] = []
armed_from book natives counters (e ∷ es) (t ∷ ts) = armed_event book natives counters e t ∷ armed_from book natives counters es ts

-- for each index up to 32 the counter that is watched, if one is
abbrev pub armed_of : Book → AtRest → List (Option ℕ)
armed_of book s = armed_from book (set_natives book s) (counters_for (set_natives book s)) s.events s.thresholds ++ replicate (MOST_SET_EVENTS - length s.events) None

-- the register of each pin's count, put on its counter
abbrev pub programs : List ℕ → Domain → (Native → ℕ) → List Pin → List (Option Register) → List (Option Register)
programs widths d counts [] registers = registers
programs widths d counts (p ∷ ps) registers =
    let register = register_at (slice_index widths p.counter) p.native d p.threshold (counts p.native) in
    programs widths d counts ps (slice_set registers p.counter (Some register))

-- each pin is on a counter that exists, with a threshold that fits, and no two are on the same
pub record ArePinned (widths : List ℕ) (pins : List Pin) : Type 0 where
  pub exist : (k : ℕ) (p : Pin) → slice_get pins k ≡ Some p → p.counter < length widths
  pub fit : (k : ℕ) (p : Pin) → slice_get pins k ≡ Some p → IsThreshold (slice_index widths p.counter) p.threshold
  pub apart : (j k : ℕ) (p q : Pin) → slice_get pins j ≡ Some p → slice_get pins k ≡ Some q → p.counter ≡ q.counter → j ≡ k

-- the component has a unit, and the pins are on counters of it
pub record AreOnUnit (units : List UnitView) (component : Option ℕ) (pins : List Pin) : Type 0 where
  pub has_unit : (comp : ℕ) → component ≡ Some comp → comp < length units
  pub widths : (comp : ℕ) (unit : UnitView) → component ≡ Some comp → slice_get units comp ≡ Some unit → AreWidths unit.widths
  pub pinned : (comp : ℕ) (unit : UnitView) → component ≡ Some comp → slice_get units comp ≡ Some unit → ArePinned unit.widths pins

-- nothing but these pins is programmed on the unit, in this domain, whatever they counted
pub record IsProgrammed (d : Domain) (pins : List Pin) (unit : UnitView) : Type 0 where
  pub counts : Native → ℕ
  pub registers : unit.registers ≡ programs unit.widths d counts pins (replicate (length unit.widths) None)

-- the pins are on counters of the component's unit, and nothing else is
pub record AreAlone (units : List UnitView) (component : Option ℕ) (d : Domain) (pins : List Pin) : Type 0 where
  pub on_unit : AreOnUnit units component pins
  pub programmed : (comp : ℕ) (unit : UnitView) → component ≡ Some comp → slice_get units comp ≡ Some unit → IsProgrammed d pins unit

-- a set on its unit is alone on it
abbrev pub IsAlone : List UnitView → Slot → Type 0
IsAlone units slot = (pins : List Pin) (armed : List (Option ℕ)) (places : List ℕ) → slot.counting ≡ counting.OnUnit pins armed places → AreAlone units slot.set.rest.component slot.set.rest.domain pins

-- a set on its unit is on counters of it
abbrev pub HasUnit : List UnitView → Slot → Type 0
HasUnit units slot = (pins : List Pin) (armed : List (Option ℕ)) (places : List ℕ) → slot.counting ≡ counting.OnUnit pins armed places → AreOnUnit units slot.set.rest.component pins
