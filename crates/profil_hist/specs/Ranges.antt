-- Ranges of program counters in buckets of one width: the offset, the scale and the size of the buffer of PAPI_profil(3).
use Rattle.std.specs.Prelude.{◌&&◌, ◌+◌, ◌*◌, ◌^◌, ◌≡◌, ◌≤◌, ℕ, Bool, true, List, length, nat_le, nat_lt, sum_by}
use Rattle.std.specs.List.{AllByRecursion}
use Rattle.std.specs.Str.{bytes_eq}
use Rattle.table_rows.specs.Tables.{NoTwo}
use Rattle.table_rows.specs.Texts.{Text, is_name}
use Rattle.profil_hist.specs.declared.limits.TheConstants.{MOST_BUCKETS, MOST_BUCKET_ADDRESSES, MOST_RANGES}

-- buckets of `width` addresses each, from `start` on
pub record RangeText : Type 0 where
  pub name : Text
  pub start : ℕ
  pub width : ℕ
  pub buckets : ℕ

-- the first address after the range
abbrev pub end_of : RangeText → ℕ
end_of r = r.start + r.width * r.buckets

-- the program counter lies in the range
abbrev pub in_range : RangeText → ℕ → Bool
in_range r pc = nat_le r.start pc && nat_lt pc (end_of r)

-- bucket i of a range, from 0
abbrev pub in_bucket : RangeText → ℕ → ℕ → Bool
in_bucket r i pc = nat_le (r.start + i * r.width) pc && nat_lt pc (r.start + (i + 1) * r.width)

-- two ranges that are not empty have an address in common
abbrev pub overlaps : RangeText → RangeText → Bool
overlaps a b = nat_lt a.start (end_of b) && nat_lt b.start (end_of a)

-- the number of buckets of all ranges
abbrev pub buckets_in_all : List RangeText → ℕ
buckets_in_all ranges = sum_by (λ r. r.buckets) ranges

-- ---- what a map keeps

-- a range within the limits
pub record IsRange (r : RangeText) : Type 0 where
  pub named : is_name r.name ≡ true
  pub some_width : 1 ≤ r.width
  pub few_addresses : r.width ≤ MOST_BUCKET_ADDRESSES
  pub some_buckets : 1 ≤ r.buckets
  pub few_buckets : r.buckets ≤ MOST_BUCKETS
  pub ends : end_of r ≤ 2 ^ 64

-- the ranges of a map within the limits: no name twice, and no two that overlap
pub record IsMap (ranges : List RangeText) : Type 0 where
  pub few : length ranges ≤ MOST_RANGES
  pub few_buckets : buckets_in_all ranges ≤ MOST_BUCKETS
  pub each : AllByRecursion IsRange ranges
  pub distinct : NoTwo (λ (a b : RangeText). bytes_eq a.name b.name) ranges
  pub apart : NoTwo overlaps ranges
