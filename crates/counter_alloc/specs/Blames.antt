-- The least deficient set of a list that is not assignable: what is told beside PAPI_ECNFLCT of PAPI_add_event(3).
use Rattle.std.specs.Prelude.{◌≡◌, ℕ, ◌<◌, ◌↔◌, List, take}
use Rattle.counter_alloc.specs.Assignments.{Has, Deficient, IsShortestPrefix, counters_of}
use Rattle.counter_alloc.specs.declared.matching.Blame.{Blame}

-- the places of the shortest prefix that is not assignable which lie in each of its deficient sets, with the counters allowed to them
pub record IsBlame (allowed : List ℕ) (blame : Blame) : Type 0 where
  pub prefix : ℕ
  pub is_shortest : IsShortestPrefix allowed prefix
  pub members : (place : ℕ)
      → Has blame.members place ↔ ((place < prefix) × ((s : ℕ) → Deficient (take prefix allowed) s → Has s place))
  pub counters : blame.counters ≡ counters_of (take prefix allowed) blame.members
