-- What refusals look at in the places of a core, and the code of the first check that holds.
use Rattle.std.specs.Prelude.{◌≡◌, ◌≢◌, ◌<◌, length, slice_index_or, ℕ, Bool, if◌then◌else◌, map, List, [], ◌∷◌, Option, Some, None}
use Rattle.std.specs.Option.{option_map}
use Rattle.papi_base.specs.declared.code.Code.{Code}
use Rattle.papi_base.specs.declared.code.Code.TheVariants.{Eisrun, Enoevst}
use Rattle.event_sets.specs.declared.refusal.Refusal.TheVariants.{Plain}
use Rattle.postfix_rules.specs.Presets.{Book}
use Rattle.session_model.specs.CallTypes.{Call}
use Rattle.session_model.specs.Faces.{Face, is_absent, runs}
use Rattle.session_model.specs.Refusals.{refusal_of}
use Rattle.thread_slots.specs.declared.slot.Slot.{Slot}
use Rattle.thread_slots.specs.Slots.{face_of_slot}
use Rattle.thread_core.specs.CoreView.{CoreView}

-- what refusals look at under each number
abbrev pub slot_faces : List (Option Slot) → List (Option Face)
slot_faces slots = map (option_map face_of_slot) slots

-- there is a set under the number
abbrev pub IsThere : List (Option Slot) → ℕ → Type 0
IsThere slots k = (k < length slots) × (slice_index_or slots k None ≢ None)

-- the code of the first check that holds
abbrev pub first_code : List (Bool × Code) → Option Code
first_code [] = None
first_code (check ∷ checks) = if check.0 then Some check.1 else first_code checks

-- before a set at rest is asked: there is none, or it runs
abbrev pub rest_code : List (Option Face) → ℕ → Option Code
rest_code faces k = if is_absent faces k then Some Enoevst else if runs faces k then Some Eisrun else None

-- the core refuses the call with this code, or, if there is none, does not refuse it
abbrev pub IsRefusedWith : CoreView → Call → Option Code → Type 0
IsRefusedWith core call code = (book : Book) → option_map Plain code ≡ refusal_of book core.shape core.registered (slot_faces core.slots) call
