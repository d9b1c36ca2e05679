-- A conflict names the least set of natives with fewer allowed counters than members.
use Rattle.event_sets.proofs.Words.{nat_tests, ◌≡◌, ◌<◌, ◌≤◌, ◌^◌, Bool, false, List, length, arith, Option, Some, option_map, All, if◌then◌else◌}
use Rattle.event_sets.proofs.Words.{ltb-false, or_parts, length-map, Native, is_assignable, masks_of, least_set, Clash, Einval, Ecount, Plain}
use Rattle.event_sets.proofs.Words.{Conflict, blamed_unless, AddConflictIsLeast, ConflictIsLeast, IsLeastClash}
use Rattle.event_sets.proofs.Clashing.{are_masks}

blamed_least : (natives : List Native) (clash : Clash) → All (λ n. n.allowed < 2 ^ 32) natives → length natives ≤ 32
    → (fits : Bool) → is_assignable (masks_of natives) ≡ fits → blamed_unless fits natives ≡ Some clash → IsLeastClash natives clash
blamed_least natives clash masks few fits is told = grind (arith, nat_tests, length-map, least_set, are_masks)

pub conflict_is_least : ConflictIsLeast
conflict_is_least book e s clash masks room none is = grind (arith, nat_tests, ltb-false, or_parts, blamed_least)

-- the refusal is a conflict if the two before it do not come
last_refusal : (taken full : Bool) (o : Option Clash) (clash : Clash)
    → (if taken then Some (Plain Einval) else if full then Some (Plain Ecount) else option_map Conflict o) ≡ Some (Conflict clash)
    → (full ≡ false) × (o ≡ Some clash)
last_refusal taken full = grind (arith, nat_tests)

pub add_conflict_is_least : AddConflictIsLeast
add_conflict_is_least book e s clash masks none is = grind (arith, nat_tests, last_refusal, conflict_is_least)
