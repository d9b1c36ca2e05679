-- Counters for a list of native events, and what stands in the way of one: PAPI_ECNFLCT of PAPI_add_event(3).
use Rattle.std.specs.Prelude.{ℕ, ◌+◌, Bool, true, false, ◌==◌, if◌then◌else◌, List, [], ◌∷◌, ◌++◌, drop, find, Option, Some, None, unwrap_or}
use Rattle.std.specs.Option.{option_map}
use Rattle.std.specs.Int.{bit_at}
use Rattle.papi_base.specs.declared.native.Native.{Native}
use Rattle.counter_alloc.specs.Listing.{least, is_assignable}
use Rattle.counter_alloc.specs.Masks.{masks_of}
use Rattle.counter_alloc.specs.BlameOf.{blame_of}
use Rattle.event_sets.specs.declared.refusal.Clash.{Clash}

-- the counter of each native
abbrev pub counters_for : List Native → List ℕ
counters_for natives = unwrap_or (least (masks_of natives)) []

-- the natives whose places are members of the set, if the list begins at this place
abbrev pub members_from : ℕ → ℕ → List Native → List Native
members_from members place [] = []
members_from members place (n ∷ ns) = (if bit_at members place == 1 then n ∷ [] else []) ++ members_from members (place + 1) ns

-- the natives to blame, and the counters that they are allowed
abbrev pub blamed : List Native → Clash
blamed natives = record { natives = members_from (blame_of (masks_of natives)).members 0 natives; counters = (blame_of (masks_of natives)).counters }

-- the conflict of the natives, unless they are allowed
abbrev pub blamed_unless : Bool → List Native → Option Clash
blamed_unless true natives = None
blamed_unless false natives = Some (blamed natives)

-- a native alone, for which there is no counter
abbrev pub alone : Native → Clash
alone n = record { natives = n ∷ []; counters = 0 }

-- What stands in the way of the natives, of which n were there before. Not multiplexed, they need an assignment;
-- multiplexed, each new one needs an allowed counter.
abbrev pub clash_of : Option ℕ → ℕ → List Native → Option Clash
clash_of None before natives = blamed_unless (is_assignable (masks_of natives)) natives
clash_of (Some slice) before natives = option_map alone (find (λ n. n.allowed == 0) (drop before natives))
