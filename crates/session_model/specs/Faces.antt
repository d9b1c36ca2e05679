-- Sets under their numbers, and what a refusal looks at of each: PAPI_create_eventset(3).
use Rattle.std.specs.Prelude.{ℕ, ◌+◌, Bool, false, ◌&&◌, ◌==◌, List, [], ◌∷◌, Option, Some, None, is_none, map, slice_get, slice_set, unwrap_or}
use Rattle.std.specs.Option.{option_map, option_map_or}
use Rattle.std.specs.List.{list_any}
use Rattle.event_sets.specs.AtRest.{AtRest}
use Rattle.session_model.specs.Account.{Kept}

-- the set at rest, and whether it runs
pub record Face : Type 0 where
  pub set : AtRest
  pub running : Bool

-- what a refusal looks at of a kept set
abbrev pub face_of : Kept → Face
face_of s = record { set = s.set; running = s.running }

-- the same of all sets under their numbers
abbrev pub faces_of : List (Option Kept) → List (Option Face)
faces_of sets = map (option_map face_of) sets

-- the item under a number, if there is one
abbrev pub at : {X : Type 0} → List (Option X) → ℕ → Option X
at places k = unwrap_or (slice_get places k) None

-- what is under the number is changed
abbrev pub change : {X : Type 0} → (X → X) → List (Option X) → ℕ → List (Option X)
change f places k = slice_set places k (option_map f (at places k))

-- the least number with nothing under it
abbrev pub free : {X : Type 0} → List (Option X) → ℕ
free [] = 0
free (None ∷ places) = 0
free (Some x ∷ places) = 1 + free places

-- no set has this number
abbrev pub is_absent : List (Option Face) → ℕ → Bool
is_absent faces k = is_none (at faces k)

-- there is such a set, and the test holds of it at rest
abbrev pub has : (AtRest → Bool) → List (Option Face) → ℕ → Bool
has test faces k = option_map_or (λ f. test f.set) (at faces k) false

-- a set has this number, and it runs
abbrev pub runs : List (Option Face) → ℕ → Bool
runs faces k = option_map_or (λ f. f.running) (at faces k) false

-- there is a set in this place, and it runs
abbrev pub is_running : Option Face → Bool
is_running place = option_map_or (λ f. f.running) place false

-- the set runs, and it is of this component
abbrev pub runs_on : Option ℕ → Option Face → Bool
runs_on None place = false
runs_on (Some comp) None = false
runs_on (Some comp) (Some f) = f.running && option_map_or (λ c. c == comp) f.set.component false

-- some running set has the component of this one
abbrev pub component_runs : List (Option Face) → ℕ → Bool
component_runs faces k = option_map_or (λ f. list_any (runs_on f.set.component) faces) (at faces k) false
