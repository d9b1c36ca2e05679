-- The ranges of a map in the order of their addresses, and where an address falls.
use Rattle.std.specs.Prelude.{◌&&◌, ◌==◌, ◌≡◌, ◌<◌, ℕ, true, false, List, length, Option, Some, None, nat_lt, option_map, slice_get}
use Rattle.std.specs.List.{All, list_any}
use Rattle.std.specs.List.Sorted.{IsNonDecreasingBy}
use Rattle.profil_hist.specs.Ranges.{RangeText, in_bucket, in_range}
use Rattle.profil_hist.specs.declared.placing.Place.{Place}
use Rattle.profil_hist.specs.declared.placing.RangeStart.{RangeStart}

-- a placed range stands with its own first address
abbrev pub IsPlaced : List RangeText → RangeStart → Type 0
IsPlaced ranges p = option_map (λ r. r.start) (slice_get ranges p.range) ≡ Some p.start

-- n ranges of a map, from the first on
pub record ArePlacesOf (ranges : List RangeText) (count : ℕ) (places : List RangeStart) : Type 0 where
  pub right : All (IsPlaced ranges) places
  pub each : (k : ℕ) → k < count → list_any (λ p. p.range == k) places ≡ true

-- all ranges of a map, in the order of their addresses
pub record IsOrder (ranges : List RangeText) (places : List RangeStart) : Type 0 where
  pub all : ArePlacesOf ranges (length ranges) places
  pub rising : IsNonDecreasingBy (λ p. p.start) places

-- the range that holds an address, or that none does
abbrev pub IsRangeOf : List RangeText → ℕ → Option ℕ → Type 0
IsRangeOf ranges pc None = list_any (λ r. in_range r pc) ranges ≡ false
IsRangeOf ranges pc (Some k) = option_map (λ r. in_range r pc) (slice_get ranges k) ≡ Some true

-- the bucket that holds an address, or that no range does
abbrev pub IsPlaceOf : List RangeText → ℕ → Option Place → Type 0
IsPlaceOf ranges pc None = list_any (λ r. in_range r pc) ranges ≡ false
IsPlaceOf ranges pc (Some p) = option_map (λ r. in_bucket r p.bucket pc && nat_lt p.bucket r.buckets) (slice_get ranges p.range) ≡ Some true
