-- The text of a histogram: this project's own, docs/FORMATS.md.
use Rattle.std.specs.Prelude.{◌==◌, ◌+◌, ◌*◌, ℕ, false, List, [], ◌++◌, length, codes, count_by, decimal, if◌then◌else◌, slice_get, unwrap_or}
use Rattle.std.specs.Fmt.{digits}
use Rattle.std.specs.List.{flat_map, range_with_len}
use Rattle.std.specs.Option.{option_map_or}
use Rattle.table_rows.specs.Texts.{Text}
use Rattle.profil_hist.specs.Histograms.{HistText, bucket_at, hits_at, outside_count}
use Rattle.profil_hist.specs.Ranges.{RangeText, in_bucket, in_range}

-- the line of a bucket that was met: its lowest address, and how often
abbrev pub bucket_line : RangeText → ℕ → ℕ → Text
bucket_line r i count = if count == 0 then [] else codes "0x" ++ (digits 16 false (r.start + i * r.width) ++ (codes " " ++ (decimal count ++ codes "\n")))

-- the lines of the buckets of a range, of which each was met so often
abbrev pub bucket_lines : RangeText → (ℕ → ℕ) → Text
bucket_lines r counts = flat_map (λ i. bucket_line r i (counts i)) (range_with_len 0 r.buckets)

-- the lines of a range: its name and how often it was met, and its buckets
abbrev pub range_lines : RangeText → ℕ → (ℕ → ℕ) → Text
range_lines r hits counts = codes "range " ++ (r.name ++ (codes " " ++ (decimal hits ++ (codes "\n" ++ bucket_lines r counts))))

-- the lines of the hits outside of all ranges, and of all hits
abbrev pub last_lines : ℕ → ℕ → Text
last_lines outside total = codes "outside " ++ (decimal outside ++ (codes "\ntotal " ++ (decimal total ++ codes "\n")))

-- the ranges in the order of their file, each with what is in it, and then how many program counters are in no range, and how many there are
unfoldable pub profile_text : List RangeText → List ℕ → Text
profile_text ranges pcs =
    flat_map (λ r. range_lines r (count_by (in_range r) pcs) (λ i. count_by (in_bucket r i) pcs)) ranges ++ last_lines (outside_count ranges pcs) (length pcs)

-- ---- the same by what a histogram has

-- how often range k was met, or 0
abbrev pub hits_or_none : HistText → ℕ → ℕ
hits_or_none h k = unwrap_or (hits_at h k) 0

-- how often bucket i of range k was met, or 0
abbrev pub count_or_none : HistText → ℕ → ℕ → ℕ
count_or_none h k i = unwrap_or (bucket_at h k i) 0

-- the lines of range k
abbrev pub lines_at : HistText → ℕ → Text
lines_at h k = option_map_or (λ r. range_lines r (hits_or_none h k) (count_or_none h k)) (slice_get h.map k) []

-- what papi_profil prints: the ranges in the order of the map, and the lines that end the text
abbrev pub hist_lines : HistText → Text
hist_lines h = flat_map (lines_at h) (range_with_len 0 (length h.map)) ++ last_lines h.outside h.total
