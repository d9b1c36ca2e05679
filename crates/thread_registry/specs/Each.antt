-- How two lists of things stand to each other, place by place.
use Rattle.std.specs.Prelude.{◌≡◌, ℕ, ◌<◌, List, length, slice_index_or}

-- the lists have one length, and what stands at each place is related
pub record Each {X : Type 0} (R : X → X → Type 0) (xs ys : List X) : Type 0 where
  pub len : length ys ≡ length xs
  pub at : (k : ℕ) (d : X) → k < length xs → R (slice_index_or xs k d) (slice_index_or ys k d)

-- what stands at each place has the property
abbrev pub AtEach : {X : Type 0} → (X → Type 0) → List X → Type 0
AtEach {X} P xs = (k : ℕ) (d : X) → k < length xs → P (slice_index_or xs k d)
