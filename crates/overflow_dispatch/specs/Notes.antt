-- Lists of notes that handlers were told, before and after (PAPI_overflow(3)).
use Rattle.std.specs.Prelude.{◌≡◌, ℕ, ◌<◌, ◌≤◌, List, [], ◌∷◌, ◌++◌, drop, length, map, take, slice_index_or}
use Rattle.std.specs.List.{flat_map}
use Rattle.overflow_dispatch.specs.declared.handler.Note.{Note}

-- after is before with some of the first notes appended, or all of them
abbrev pub Begun : List Note → List Note → List Note → Type 0
Begun before notes after = (n : ℕ) × (n ≤ length notes) × (after ≡ before ++ take n notes)

-- after is before with some of the first notes appended, but not all of them
abbrev pub PartAdded : List Note → List Note → List Note → Type 0
PartAdded before notes after = (n : ℕ) × (n < length notes) × (after ≡ before ++ take n notes)

-- each of several lists has the notes of its place appended
pub record EachAdded (before given after : List (List Note)) : Type 0 where
  pub same_length : length after ≡ length before
  pub added : (t : ℕ) → t < length before → slice_index_or after t [] ≡ slice_index_or before t [] ++ slice_index_or given t []

-- each of several lists has some of the first notes of its place appended
pub record EachBegun (before given after : List (List Note)) : Type 0 where
  pub same_length : length after ≡ length before
  pub begun : (t : ℕ) → t < length before → Begun (slice_index_or before t []) (slice_index_or given t []) (slice_index_or after t [])

-- after is before with some notes appended
abbrev pub Grown : List Note → List Note → Type 0
Grown before after = (more : List Note) × (after ≡ before ++ more)

-- each of several lists has some notes appended
pub record EachGrown (before after : List (List Note)) : Type 0 where
  pub same_length : length after ≡ length before
  pub grown : (t : ℕ) → t < length before → Grown (slice_index_or before t []) (slice_index_or after t [])

-- the notes of several lists after the first of each, as many as its number says, list by list
abbrev pub told_since : List ℕ → List (List Note) → List Note
told_since [] lists = []
told_since (k ∷ ks) [] = []
told_since (k ∷ ks) (notes ∷ lists) = drop k notes ++ told_since ks lists

-- If each list has the notes of its place appended, these are what was told since the lists had their lengths before.
abbrev pub AddedIsTold : Type 0
AddedIsTold = (before given after : List (List Note)) → length given ≡ length before → EachAdded before given after
    → told_since (map (λ notes. length notes) before) after ≡ flat_map (λ notes. notes) given
