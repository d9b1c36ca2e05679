-- What a core keeps of a set of the account.
use Rattle.std.specs.Prelude.{ℕ, Bool, true, false, List, [], ◌∷◌}
use Rattle.papi_base.specs.declared.occurrence.Occ.{Occ}
use Rattle.papi_base.specs.declared.native.Native.{Native}
use Rattle.counter_alloc.specs.Masks.{masks_of}
use Rattle.multiplex.specs.Groups.{groups, group_count}
use Rattle.multiplex.specs.Rotations.{RotationView}
use Rattle.multiplex.specs.Turns.{Turns, weight_in_turn}
use Rattle.postfix_rules.specs.Presets.{Book}
use Rattle.event_sets.specs.AtRest.{AtRest, new_set, set_natives}
use Rattle.session_model.specs.Account.{Kept}
use Rattle.session_model.specs.Counts.{weighed}
use Rattle.session_model.specs.Faces.{Face}
use Rattle.thread_slots.specs.declared.slot.Counting.{Counting}
use Rattle.thread_slots.specs.declared.slot.Counting.TheVariants as counting
use Rattle.thread_slots.specs.declared.slot.Slot.{Slot}

-- what each native counted in the turns of its group
abbrev pub turned : Turns → List Occ → Kept → List Native → List ℕ → List ℕ
turned turns past s [] numbers = []
turned turns past s (n ∷ ns) [] = []
turned turns past s (n ∷ ns) (g ∷ gs) = weighed (weight_in_turn turns g n s.set.domain) past s ∷ turned turns past s ns gs

-- the number of each native's group
abbrev pub numbers_of : Book → AtRest → List ℕ
numbers_of book s = groups (masks_of (set_natives book s))

-- the turns of the natives, as they are made when the set starts
abbrev pub rotation_of : List ℕ → ℕ → RotationView
rotation_of numbers slice = record { numbers = numbers; turns = record { slice = slice; count = group_count numbers; start = 0 }; time = 0 }

-- a set counts unless it is stopped
abbrev pub is_counting : Counting → Bool
is_counting (counting.Stopped kept) = false
is_counting (counting.OnUnit pins armed places) = true
is_counting (counting.InTurns rotation begun kept) = true

-- what refusals look at
abbrev pub face_of_slot : Slot → Face
face_of_slot k = record { set = k.set.rest; running = is_counting k.counting }

-- what is kept of a new set
abbrev pub new_slot : Slot
new_slot = record {
  set = record { rest = new_set; natives = []; counters = 0 };
  values = [];
  counting = counting.Stopped [];
}
