-- Histograms of program counters: how often each bucket of each range was met, after PAPI_profil(3).
use Rattle.std.specs.Prelude.{◌+◌, ◌^◌, ◌≡◌, ◌≤◌, ℕ, Bool, false, not, List, length, map, Option, Some, None, count_by}
use Rattle.std.specs.Prelude.{if◌then◌else◌, is_some, nat_lt, option_map, slice_get, sum_by}
use Rattle.std.specs.List.{list_any}
use Rattle.std.specs.Option.{option_and_then, option_map_or}
use Rattle.profil_hist.specs.Counts.{RowText, bucket_in, met}
use Rattle.profil_hist.specs.Ranges.{IsMap, RangeText, in_bucket, in_range}

-- ---- the histogram of a list of program counters

-- how many program counters are in a bucket of a range, if there is such a bucket: PAPI_profil(3)
abbrev pub bucket_count : List RangeText → ℕ → ℕ → List ℕ → Option ℕ
bucket_count ranges k i pcs = option_and_then (λ r. if nat_lt i r.buckets then Some (count_by (in_bucket r i) pcs) else None) (slice_get ranges k)

-- how many program counters are in a range, if there is such a range
abbrev pub range_count : List RangeText → ℕ → List ℕ → Option ℕ
range_count ranges k pcs = option_map (λ r. count_by (in_range r) pcs) (slice_get ranges k)

-- how many program counters are in no range
abbrev pub outside_count : List RangeText → List ℕ → ℕ
outside_count ranges pcs = count_by (λ pc. not (list_any (λ r. in_range r pc) ranges)) pcs

-- ---- what contracts see

-- a histogram: its ranges, how often each was met, the hits outside of all, and all hits
pub record HistText : Type 0 where
  pub map : List RangeText
  pub rows : List RowText
  pub outside : ℕ
  pub total : ℕ

-- a histogram of these parts
abbrev pub hist_text : List RangeText → List RowText → ℕ → ℕ → HistText
hist_text ranges rows outside total = record { map = ranges; rows = rows; outside = outside; total = total }

-- how often bucket i of range k was met
abbrev pub bucket_at : HistText → ℕ → ℕ → Option ℕ
bucket_at h k i = bucket_in h.rows k i

-- how often range k was met
abbrev pub hits_at : HistText → ℕ → Option ℕ
hits_at h k = option_map (λ row. row.hits) (slice_get h.rows k)

-- whether the map has a range under this number, from 0
abbrev pub has_range : List RangeText → ℕ → Bool
has_range ranges k = is_some (slice_get ranges k)

-- whether the range under a number has a bucket under another one, both from 0
abbrev pub has_bucket : List RangeText → ℕ → ℕ → Bool
has_bucket ranges k i = option_map_or (λ r. nat_lt i r.buckets) (slice_get ranges k) false

-- a histogram counts exactly these program counters
pub record IsHistogram (h : HistText) (pcs : List ℕ) : Type 0 where
  pub buckets : (k i : ℕ) → bucket_at h k i ≡ bucket_count h.map k i pcs
  pub hits : (k : ℕ) → hits_at h k ≡ range_count h.map k pcs
  pub outside : h.outside ≡ outside_count h.map pcs
  pub total : h.total ≡ length pcs

-- ---- what a histogram keeps: a row for each range with a number for each bucket, and that nothing is lost

-- a histogram over its map, whose hits inside and outside are all hits
pub record IsHist (h : HistText) : Type 0 where
  pub kept : IsMap h.map
  pub shape : map (λ row. length row.buckets) h.rows ≡ map (λ r. r.buckets) h.map
  pub whole : met h.rows + h.outside ≡ h.total
  pub inside : sum_by (λ row. row.hits) h.rows + h.outside ≡ h.total
  pub few : h.total ≤ 2 ^ 63
