-- Where a row of tasks is cut in two: the first `low` of the workers have those before the cut, and the other workers the rest.
use Rattle.std.specs.Prelude.{ℕ, ◌≤◌, ◌-◌, ◌+◌, ◌*◌, List, length, min, take}
use Rattle.std.specs.Int.{abs_diff}
use Rattle.std.specs.List.{sum_by}

-- how many of the tasks ask for any work
abbrev pub busy : {X : Type 0} → (X → ℕ) → List X → ℕ
busy load tasks = sum_by (λ x. min (load x) 1) tasks

-- How uneven the cut after k tasks is: what the first workers have is compared with their share of all. Both are multiplied
-- by the number of workers, so that nothing is divided.
abbrev pub unevenness : {X : Type 0} → (X → ℕ) → List X → ℕ → ℕ → ℕ → ℕ
unevenness load tasks low workers k = abs_diff (workers * sum_by load (take k tasks)) (low * sum_by load tasks)

-- at the cut after k tasks each worker has one that asks for work
pub record GivesEachOne {X : Type 0} (load : X → ℕ) (tasks : List X) (low workers k : ℕ) : Type 0 where
  pub within : k ≤ length tasks
  pub before : low ≤ busy load (take k tasks)
  pub after : busy load (take k tasks) + (workers - low) ≤ busy load tasks

-- at the cut after k tasks each worker has one that asks for work, and no other such cut is less uneven
pub record IsMostEven {X : Type 0} (load : X → ℕ) (tasks : List X) (low workers k : ℕ) : Type 0 where
  pub each : GivesEachOne load tasks low workers k
  pub least : (j : ℕ) → GivesEachOne load tasks low workers j → unevenness load tasks low workers k ≤ unevenness load tasks low workers j
