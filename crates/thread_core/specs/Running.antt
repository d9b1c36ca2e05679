-- What is known of the sets that run.
use Rattle.std.specs.Prelude.{ℕ, ◌≡◌, ◌==◌, if◌then◌else◌, List, slice_get, Option, None, Some}
use Rattle.thread_slots.specs.declared.slot.Slot.{Slot}
use Rattle.thread_core.specs.Refusing.{slot_faces}
use Rattle.thread_core.specs.declared.running_sets.TheConstants.{NO_SET, UNKNOWN}
use Rattle.thread_slots.specs.Units.{owner_from}

-- what a kept byte tells of a component
abbrev pub told_by : ℕ → Option (Option ℕ)
told_by kept = if kept == UNKNOWN then None else (if kept == NO_SET then Some None else Some (Some kept))

-- what is known of a component is true: the number of the set that runs on it, or that none does
pub record AreKnown (known : List (Option (Option ℕ))) (slots : List (Option Slot)) : Type 0 where
  pub owner : (comp : ℕ) (found : Option ℕ) → slice_get known comp ≡ Some (Some found) → owner_from comp 0 (slot_faces slots) ≡ found
