-- What is left of the caller's values of a set: PAPI_accum(3).
use Rattle.std.specs.Prelude.{ℤ, List}
use Rattle.session_model.specs.Values.{sums}
use Rattle.thread_slots.specs.declared.slot.Slot.{Slot}

-- these values are added
abbrev pub slot_with_sums : List ℤ → Slot → Slot
slot_with_sums more slot = record slot { values = sums slot.values more }
