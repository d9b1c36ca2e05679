-- The blame of a list, computed from all sets of places: what is told beside PAPI_ECNFLCT of PAPI_add_event(3).
use Rattle.std.specs.Prelude.{ℕ, ◌+◌, ◌-◌, ◌^◌, ◌==◌, List, [], ◌∷◌, filter, find, length, take, nat_lt, count_ones, bit_and, unwrap_or}
use Rattle.std.specs.List.{range_with_len}
use Rattle.counter_alloc.specs.Assignments.{counters_of}
use Rattle.counter_alloc.specs.Listing.{assigns}
use Rattle.counter_alloc.specs.declared.matching.Blame.{Blame}

-- the length of the shortest prefix that is not assignable
unfoldable pub shortest_prefix : List ℕ → ℕ
shortest_prefix allowed =
    unwrap_or (find (λ n. length (assigns (take n allowed)) == 0) (range_with_len 0 (length allowed + 1))) 0

-- the sets of places that have more members than there are counters allowed to any member
unfoldable pub deficient_sets : List ℕ → List ℕ
deficient_sets allowed =
    filter (λ s. nat_lt (count_ones (counters_of allowed s)) (count_ones s)) (range_with_len 0 (2 ^ length allowed))

-- the numbers below n that are in each of the sets
abbrev pub in_each_set : ℕ → List ℕ → ℕ
in_each_set n [] = 2 ^ n - 1
in_each_set n (s ∷ ss) = bit_and s (in_each_set n ss)

-- the places of the shortest prefix that is not assignable which lie in each of its deficient sets, with the counters allowed to them
unfoldable pub blame_of : List ℕ → Blame
blame_of allowed =
    let prefix = take (shortest_prefix allowed) allowed in
    let members = in_each_set (length prefix) (deficient_sets prefix) in
    record { members = members; counters = counters_of prefix members }
