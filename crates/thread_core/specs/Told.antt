-- What a core tells of the set under a number: PAPI_read(3).
use Rattle.std.specs.Prelude.{ℕ, ℤ, List, [], Option, Some, None}
use Rattle.postfix_rules.specs.Presets.{Book}
use Rattle.session_model.specs.Account.{time_after}
use Rattle.session_model.specs.Faces.{at}
use Rattle.thread_slots.specs.Shown.{values_shown}
use Rattle.thread_slots.specs.declared.slot.Slot.{Slot}
use Rattle.thread_core.specs.CoreView.{CoreView}
pub use Rattle.thread_slots.specs.Numbers.{AreGiven}

-- the value of each event of a set, and none if there is no set
abbrev pub values_of_place : Book → CoreView → Option Slot → List ℤ
values_of_place book core None = []
values_of_place book core (Some slot) = values_shown book core.units (time_after core.last) slot

-- those of the set under a number
abbrev pub values_in : Book → CoreView → ℕ → List ℤ
values_in book core set = values_of_place book core (at core.slots set)
