-- What is estimated of the counts of a set whose native events take turns: PAPI_set_multiplex(3).
use Rattle.std.specs.Prelude.{ℕ, ◌-◌, List, length, slice_index}
use Rattle.std.specs.List.{position_or_len}
use Rattle.papi_base.specs.declared.occurrence.Occ.{Occ}
use Rattle.papi_base.specs.declared.native.Native.{Native}
use Rattle.counter_alloc.specs.Masks.{masks_of}
use Rattle.postfix_rules.specs.Sameness.{same_native}
use Rattle.postfix_rules.specs.Presets.{Book}
use Rattle.multiplex.specs.Groups.{group_count, groups}
use Rattle.multiplex.specs.Turns.{Turns, active, estimate, weight_in_turn}
use Rattle.event_sets.specs.AtRest.{set_natives}
use Rattle.session_model.specs.Account.{Kept, clock, end}
use Rattle.session_model.specs.Counts.{weighed}

-- how a set takes turns that has this slice and these numbers of its natives' groups
abbrev pub turns_of : ℕ → List ℕ → List Occ → Kept → Turns
turns_of slice groups past s = record { slice = slice; count = group_count groups; start = clock past s.from }

-- the time in a set's window
abbrev pub total : List Occ → Kept → ℕ
total past s = clock past (end (length past) s) - clock past s.from

-- the estimate of a native of this group: its count in the group's turns, scaled by the whole time over their time
abbrev pub estimated_in : List Occ → Kept → Turns → ℕ → Native → ℕ
estimated_in past s turns group n = estimate (weighed (weight_in_turn turns group n s.set.domain) past s) (total past s) (active turns group (total past s))

-- the estimate of a native of a set with this slice
abbrev pub estimated : Book → List Occ → Kept → ℕ → Native → ℕ
estimated book past s slice n =
    let natives = set_natives book s.set in
    let numbers = groups (masks_of natives) in
    estimated_in past s (turns_of slice numbers past s) (slice_index numbers (position_or_len (same_native n) natives)) n
