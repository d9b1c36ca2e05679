-- What native events come to over some occurrences: counts (PAPI_read(3)), or estimates if they take turns (PAPI_set_multiplex(3)).
use Rattle.std.specs.Prelude.{ℕ, ◌+◌, ◌-◌, ℤ, List, [], ◌∷◌, map, sum, slice_index, Option, Some, None}
use Rattle.std.specs.List.{position_or_len}
use Rattle.papi_base.specs.Weight.{weight_of}
use Rattle.papi_base.specs.declared.native.Native.{Native}
use Rattle.counter_alloc.specs.Masks.{masks_of}
use Rattle.multiplex.specs.Groups.{group_count, groups}
use Rattle.multiplex.specs.Turns.{Turns, active, estimate, weight_in_turn}
use Rattle.postfix_rules.specs.Presets.{Book, event_value}
use Rattle.postfix_rules.specs.Sameness.{same_native}
use Rattle.event_sets.specs.AtRest.{AtRest, set_natives}
use Rattle.session_model.specs.Account.{time_after}
use Rattle.call_laws.specs.History.{OccAfter}

-- a native event's count: the sum of what these occurrences add to it
abbrev pub count_over : AtRest → List OccAfter → Native → ℕ
count_over s os n = sum (map (λ p. weight_of n s.domain p.before p.occ) os)

-- ---- native events that take turns

-- the time at which these occurrences begin: that after the one before them
abbrev pub begins : List OccAfter → ℕ
begins [] = 0
begins (p ∷ os) = time_after p.before

-- the time after these occurrences, which begin at this one
abbrev pub ends : ℕ → List OccAfter → ℕ
ends time [] = time
ends time (p ∷ os) = ends (p.occ.stamp + 1) os

-- how many ticks they take
abbrev pub ticks : List OccAfter → ℕ
ticks os = ends (begins os) os - begins os

-- what is estimated of a native event of this group: its count in the group's turns, scaled by all ticks over theirs
abbrev pub estimate_in : AtRest → List OccAfter → Native → Turns → ℕ → ℕ
estimate_in s os n turns group =
    estimate (sum (map (λ p. weight_in_turn turns group n s.domain p.before p.occ) os)) (ticks os) (active turns group (ticks os))

-- a native event's estimate in a set with this slice: the groups' turns begin with the occurrences
abbrev pub estimate_over : Book → AtRest → ℕ → List OccAfter → Native → ℕ
estimate_over book s slice os n =
    let natives = set_natives book s in
    let numbers = groups (masks_of natives) in
    estimate_in s os n (record { slice = slice; count = group_count numbers; start = begins os }) (slice_index numbers (position_or_len (same_native n) natives))

-- ---- values

-- a native event's count, or its estimate if the set has a slice
abbrev pub measure_over : Option ℕ → Book → AtRest → List OccAfter → Native → ℕ
measure_over None book s os n = count_over s os n
measure_over (Some slice) book s os n = estimate_over book s slice os n

-- the value of each event of a set: its formula over what the native events come to
abbrev pub values_over : Book → AtRest → List OccAfter → List ℤ
values_over book s os = map (event_value book (measure_over s.slice book s os)) s.events
