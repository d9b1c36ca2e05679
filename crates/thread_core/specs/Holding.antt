-- What a core holds of each set of the account.
use Rattle.std.specs.Prelude.{ℕ, Bool, true, false, List, map, Option, Some, None}
use Rattle.std.specs.Option.{option_map}
use Rattle.papi_base.specs.declared.occurrence.Occ.{Occ}
use Rattle.postfix_rules.specs.Presets.{Book}
use Rattle.event_sets.specs.AtRest.{Widths, set_natives}
use Rattle.event_sets.specs.Sets.{set_view}
use Rattle.session_model.specs.Account.{Kept, clock}
use Rattle.session_model.specs.Estimates.{turns_of}
use Rattle.session_model.specs.Values.{measured}
use Rattle.thread_slots.specs.declared.slot.Counting.{Counting}
use Rattle.thread_slots.specs.declared.slot.Counting.TheVariants as counting
use Rattle.thread_slots.specs.declared.slot.Slot.{Slot}
use Rattle.thread_slots.specs.EventPlaces.{places_of}
use Rattle.thread_slots.specs.Pinned.{armed_of, pins_of}
use Rattle.thread_slots.specs.Slots.{numbers_of, rotation_of, turned}

-- A stopped set keeps the count of each native, or its estimate. One that runs is on its unit, which has its counts, or its natives
-- take turns, and it keeps what each counted in these.
abbrev pub counting_by : Book → List Occ → Kept → Bool → Option ℕ → Counting
counting_by book past s false m = counting.Stopped (map (measured s.set.slice book past s) (set_natives book s.set))
counting_by book past s true None = counting.OnUnit (pins_of book s.set) (armed_of book s.set) (places_of book (set_natives book s.set) s.set.events)
counting_by book past s true (Some slice) =
    let kept = turned (turns_of slice (numbers_of book s.set) past s) past s (set_natives book s.set) (numbers_of book s.set) in
    counting.InTurns (rotation_of (numbers_of book s.set) slice) (clock past s.from) kept

-- the set at rest with its natives, and how it counts
abbrev pub slot_with : Book → Widths → Kept → Counting → Slot
slot_with book shape s how = record { set = set_view book shape s.set; values = s.values; counting = how }

-- what is kept of a set
abbrev pub slot_of : Book → Widths → List Occ → Kept → Slot
slot_of book shape past s = slot_with book shape s (counting_by book past s s.running s.set.slice)

-- under each number
abbrev pub slots_of : Book → Widths → List Occ → List (Option Kept) → List (Option Slot)
slots_of book shape past sets = map (option_map (slot_of book shape past)) sets
