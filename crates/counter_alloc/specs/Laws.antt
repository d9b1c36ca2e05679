-- Laws of the definitions, for those who stand on them.
use Rattle.std.specs.Prelude.{◌≡◌, ◌≤◌, ◌↔◌, ◌++◌, true, false, List, ℕ, AllPairs, Contains, Some, length, take}
use Rattle.papi_base.specs.declared.limits.TheConstants.{MOST_SET_NATIVES}
use Rattle.counter_alloc.specs.Assignments.{IsAssignment, Assignable, IsLeast, IsLeastDeficient, IsShortestPrefix, counters_of}
use Rattle.counter_alloc.specs.Listing.{assigns, least, is_assignable, IsBefore}
use Rattle.counter_alloc.specs.Masks.{AreMasks}
use Rattle.counter_alloc.specs.Blames.{IsBlame}
use Rattle.counter_alloc.specs.BlameOf.{blame_of, shortest_prefix}
use Rattle.counter_alloc.specs.declared.matching.Blame.{Blame}

-- the list of all assignments has each of them, and nothing else
abbrev pub ListsEach : Type 0
ListsEach = (allowed chosen : List ℕ) → AreMasks allowed → Contains (assigns allowed) chosen ↔ IsAssignment allowed chosen

-- the list of all assignments is in increasing order, compared place by place
abbrev pub ListsInOrder : Type 0
ListsInOrder = (allowed : List ℕ) → AllPairs IsBefore (assigns allowed)

-- the list of all assignments is not empty exactly if there is an assignment
abbrev pub ListsSome : Type 0
ListsSome = (allowed : List ℕ) → AreMasks allowed → (is_assignable allowed ≡ true) ↔ Assignable allowed

-- the least assignment is the first that is listed
abbrev pub ListsLeastFirst : Type 0
ListsLeastFirst = (allowed chosen : List ℕ) → AreMasks allowed → IsLeast allowed chosen → least allowed ≡ Some chosen

-- no list has two least assignments
abbrev pub OneLeast : Type 0
OneLeast = (allowed first second : List ℕ) → AreMasks allowed → IsLeast allowed first → IsLeast allowed second → first ≡ second

-- no list has two blames
abbrev pub OneBlame : Type 0
OneBlame = (allowed : List ℕ) (first second : Blame) → IsBlame allowed first → IsBlame allowed second → first ≡ second

-- the blame of a list is the blame of each list that it begins
abbrev pub BlameStays : Type 0
BlameStays = (front back : List ℕ) (blame : Blame) → IsBlame front blame → IsBlame (front ++ back) blame

-- the blame of a list is the one that is computed from all sets of its places
abbrev pub ComputesBlame : Type 0
ComputesBlame = (allowed : List ℕ) (blame : Blame) → AreMasks allowed → IsBlame allowed blame → blame ≡ blame_of allowed

-- the members of the blame are the least deficient set of the shortest prefix that is not assignable
pub record IsLeastSet (allowed : List ℕ) (blame : Blame) : Type 0 where
  pub shortest : IsShortestPrefix allowed (shortest_prefix allowed)
  pub least : IsLeastDeficient (take (shortest_prefix allowed) allowed) blame.members
  pub counters : blame.counters ≡ counters_of (take (shortest_prefix allowed) allowed) blame.members

-- each list of at most 32 places that is not assignable has a blame, which is deficient and lies in each deficient set: Hall's theorem
abbrev pub LeastSet : Type 0
LeastSet = (allowed : List ℕ) → AreMasks allowed → length allowed ≤ MOST_SET_NATIVES → is_assignable allowed ≡ false → IsLeastSet allowed (blame_of allowed)
