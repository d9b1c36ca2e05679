-- The groups of native events that take turns on a component's counters: PAPI_set_multiplex(3). How groups are made is a
-- choice of this project.
use Rattle.std.specs.Prelude.{ℕ, ◌+◌, if◌then◌else◌, List, [], ◌∷◌, ◌++◌}
use Rattle.counter_alloc.specs.Listing.{is_assignable}

-- The number of each place's group. A place joins the last group if that group with it is assignable, else it begins
-- the next one. `group` is the last one so far, and has the number `number`.
abbrev pub groups_from : List ℕ → ℕ → List ℕ → List ℕ
groups_from group number [] = []
groups_from group number (mask ∷ masks) =
    let joins = is_assignable (group ++ mask ∷ []) in
    let present = if joins then number else number + 1 in
    present ∷ groups_from (if joins then group ++ mask ∷ [] else mask ∷ []) present masks

-- the number of the group of each place, from the counters that each is allowed
abbrev pub groups : List ℕ → List ℕ
groups masks = groups_from [] 0 masks

-- how many groups the natives of a set are in
abbrev pub group_count : List ℕ → ℕ
group_count [] = 0
group_count (g ∷ []) = g + 1
group_count (g ∷ h ∷ gs) = group_count (h ∷ gs)
