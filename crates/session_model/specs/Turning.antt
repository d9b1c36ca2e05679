-- What holds of estimates if stamps rise.
use Rattle.std.specs.Prelude.{ℕ, ◌*◌, ◌≡◌, ◌≤◌, List, length}
use Rattle.papi_base.specs.declared.occurrence.Occ.{Occ}
use Rattle.papi_base.specs.declared.native.Native.{Native}
use Rattle.papi_base.specs.declared.limits.TheConstants.{LARGEST_AMOUNT}
use Rattle.multiplex.specs.Turns.{Turns, active, weight_in_turn}
use Rattle.session_model.specs.Account.{Kept}
use Rattle.session_model.specs.Bounds.{IsWithin, Rises}
use Rattle.session_model.specs.Counts.{count, weighed}
use Rattle.session_model.specs.Estimates.{estimated_in, total, turns_of}

-- what a native counts in its turns is at most 255 for each tick of them
abbrev pub CountsPerTick : Type 0
CountsPerTick = (past : List Occ) (s : Kept) (slice : ℕ) (numbers : List ℕ) (group : ℕ) (n : Native) → Rises 0 past → IsWithin (length past) s
    → weighed (weight_in_turn (turns_of slice numbers past s) group n s.set.domain) past s ≤ LARGEST_AMOUNT * active (turns_of slice numbers past s) group (total past s)

-- if all natives are in one group, the estimate is the count
abbrev pub OneGroupCounts : Type 0
OneGroupCounts = (past : List Occ) (s : Kept) (turns : Turns) (n : Native) → Rises 0 past → IsWithin (length past) s → turns.count ≡ 1
    → estimated_in past s turns 0 n ≡ count past s n
