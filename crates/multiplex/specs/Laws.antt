-- Laws of groups and their turns.
use Rattle.std.specs.Prelude.{ℕ, ◌+◌, ◌-◌, ◌*◌, ◌/◌, ◌%◌, ◌≡◌, ◌≤◌, ◌<◌, ◌==◌, All, true}
use Rattle.std.specs.Prelude.{false, min, count_by, List, [], ◌∷◌, ◌++◌, length, replicate}
use Rattle.std.specs.List.{concat, range_with_len}
use Rattle.counter_alloc.specs.Listing.{is_assignable}
use Rattle.counter_alloc.specs.Masks.{AreMasks}
use Rattle.multiplex.specs.Groups.{groups}
use Rattle.multiplex.specs.Turns.{Turns, active, estimate}

-- how many of the first n slices run the group, if there are `count` groups
abbrev pub slices_run : ℕ → ℕ → ℕ → ℕ
slices_run count group n = count_by (λ s. (s % count) == group) (range_with_len 0 n)

-- the numbers of finished slices of two groups differ by at most one
abbrev pub RunsEvenly : Type 0
RunsEvenly = (count j k n : ℕ) → j < count → k < count → slices_run count j n ≤ slices_run count k n + 1

-- a group's ticks: those of the whole turns, and its part of the last one
abbrev pub ActiveInTurns : Type 0
ActiveInTurns = (t : Turns) (group total : ℕ) → 0 < t.slice → group < t.count
    → active t group total ≡ total / (t.slice * t.count) * t.slice + min (total % (t.slice * t.count) - group * t.slice) t.slice

-- a group counts in at most as many ticks as there were
abbrev pub ActiveWithin : Type 0
ActiveWithin = (t : Turns) (group total : ℕ) → active t group total ≤ total

-- if all natives are in one group, it counts in every tick
abbrev pub OneGroupActive : Type 0
OneGroupActive = (t : Turns) (total : ℕ) → t.count ≡ 1 → active t 0 total ≡ total

-- if all natives are in one group, an estimate is the count itself
abbrev pub OneGroupEstimate : Type 0
OneGroupEstimate = (t : Turns) (count total : ℕ) → t.count ≡ 1 → (total ≡ 0 → count ≡ 0) → estimate count total (active t 0 total) ≡ count

-- each native of the set has a group
abbrev pub EachHasGroup : Type 0
EachHasGroup = (masks : List ℕ) → length (groups masks) ≡ length masks

-- the first place of the next part does not fit in with this one
abbrev pub IsLong : List ℕ → List ℕ → Type 0
IsLong part [] = ⊥
IsLong part (mask ∷ next) = is_assignable (part ++ mask ∷ []) ≡ false

-- each part is assignable, and as long as it can be
abbrev pub AreLongest : List (List ℕ) → Type 0
AreLongest [] = Unit {0}
AreLongest (part ∷ []) = is_assignable part ≡ true
AreLongest (part ∷ next ∷ parts) = (is_assignable part ≡ true) × IsLong part next × AreLongest (next ∷ parts)

-- the number of its part for each place, if the first part has this number
abbrev pub numbered : ℕ → List (List ℕ) → List ℕ
numbered number [] = []
numbered number (part ∷ parts) = replicate (length part) number ++ numbered (number + 1) parts

-- the list in consecutive parts, each as long as it can be while assignable, and these numbers of theirs
pub record IsCutInGroups (masks numbers : List ℕ) : Type 0 where
  pub parts : List (List ℕ)
  pub whole : concat parts ≡ masks
  pub longest : AreLongest parts
  pub numbers_are : numbers ≡ numbered 0 parts

-- if each place has an allowed counter, the groups are these parts
abbrev pub GroupsAreParts : Type 0
GroupsAreParts = (masks : List ℕ) → AreMasks masks → All (λ mask. 0 < mask) masks → IsCutInGroups masks (groups masks)
