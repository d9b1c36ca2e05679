-- How often the ranges of a map were met, and one address more.
use Rattle.std.specs.Prelude.{◌+◌, ◌≡◌, ℕ, true, List, length, map, Option, Some, nat_lt, option_map, replicate, slice_get, slice_index, slice_set, sum, sum_by}
use Rattle.std.specs.Option.{option_and_then, option_map_or}
use Rattle.profil_hist.specs.Ranges.{RangeText}
use Rattle.profil_hist.specs.declared.counts.RangeCounts.{RangeCounts}
use Rattle.profil_hist.specs.declared.placing.Place.{Place}

-- how often a range was met, and each of its buckets
pub record RowText : Type 0 where
  pub hits : ℕ
  pub buckets : List ℕ

-- how often a range and each of its buckets were met
abbrev pub counts_text : RangeCounts → RowText
counts_text c = record { hits = c.hits; buckets = c.buckets.items }

-- how often each range and each of its buckets were met
abbrev pub rows_text : List RangeCounts → List RowText
rows_text rows = map counts_text rows

-- a range of n buckets that was never met
abbrev pub no_hits : ℕ → RowText
no_hits buckets = record { hits = 0; buckets = replicate buckets 0 }

-- ranges that were never met
abbrev pub no_counts : List RangeText → List RowText
no_counts ranges = map (λ r. no_hits r.buckets) ranges

-- how often a bucket was met, if there is such a bucket
abbrev pub bucket_in : List RowText → ℕ → ℕ → Option ℕ
bucket_in rows k i = option_and_then (λ row. slice_get row.buckets i) (slice_get rows k)

-- how often all buckets were met
abbrev pub met : List RowText → ℕ
met rows = sum_by (λ row. sum row.buckets) rows

-- the bucket is met once more
abbrev pub with_hit : ℕ → RowText → RowText
with_hit bucket row = record { hits = row.hits + 1; buckets = slice_set row.buckets bucket (slice_index row.buckets bucket + 1) }

-- the bucket at this place is met once more
abbrev pub with_note : Place → List RowText → List RowText
with_note p rows = option_map_or (λ row. slice_set rows p.range (with_hit p.bucket row)) (slice_get rows p.range) rows

-- a place is that of a bucket which the rows have
abbrev pub IsThere : Place → List RowText → Type 0
IsThere p rows = option_map (λ row. nat_lt p.bucket (length row.buckets)) (slice_get rows p.range) ≡ Some true
