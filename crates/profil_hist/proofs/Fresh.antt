-- The histogram of no program counters, and which buckets a histogram has.
use Rattle.profil_hist.proofs.Words.{◌≡◌, ◌∙◌, ◌∷◌, ℕ, List, [], Option, Some, None, Bool, true, false, map, length, refl, ap, arith, ltb-false}
use Rattle.profil_hist.proofs.Words.{ltb-true, get_or-replicate, length-replicate, sum_by-replicate, sum_by-append, slice_get-get_or, slice_get-map}
use Rattle.profil_hist.proofs.Words.{slice_get_past, option_and_then, option_map_or, if◌then◌else◌, is_some, nat_lt, option_map, replicate, slice_get}
use Rattle.profil_hist.proofs.Words.{sum, sum_by, RowText, bucket_in, met, no_counts, no_hits, IsHist, IsHistogram, has_bucket, hist_text, IsMap}
use Rattle.profil_hist.proofs.Words.{RangeText}
use Rattle.profil_hist.proofs.Noted.{Shape, shape-at}

shape-none : (ranges : List RangeText) → Shape ranges (no_counts ranges)
shape-none [] = refl
shape-none (r ∷ rest) =
    ap (λ (n : ℕ). n ∷ map (λ (row : RowText). length row.buckets) (no_counts rest)) (length-replicate r.buckets 0)
    ∙ ap (λ (ns : List ℕ). r.buckets ∷ ns) (shape-none rest)

sums-none : (f : RowText → ℕ) → ((n : ℕ) → f (no_hits n) ≡ 0) → (ranges : List RangeText) → sum_by f (no_counts ranges) ≡ 0
sums-none f zero_at [] = refl
sums-none f zero_at (r ∷ rest) =
    let parts = sum_by-append f (no_hits r.buckets ∷ []) (no_counts rest) in
    let more = sums-none f zero_at rest in
    let first = zero_at r.buckets in
    omega (arith, parts, more, first)

sum-zeros : (n : ℕ) → sum (replicate n 0) ≡ 0
sum-zeros n = let e = sum_by-replicate (λ (x : ℕ). x) n 0 in omega (arith, e)

pub fresh-kept : (ranges : List RangeText) (rows : List RowText) → IsMap ranges → rows ≡ no_counts ranges → IsHist (hist_text ranges rows 0 0)
fresh-kept ranges rows kept is =
    let buckets : met rows ≡ 0 = ap met is ∙ sums-none (λ (row : RowText). sum row.buckets) sum-zeros ranges in
    let hits : sum_by (λ (row : RowText). row.hits) rows ≡ 0 = ap (sum_by (λ (row : RowText). row.hits)) is ∙ sums-none (λ (row : RowText). row.hits) (λ n. refl) ranges in
    record {
      kept = kept;
      shape = ap (map (λ (row : RowText). length row.buckets)) is ∙ shape-none ranges;
      whole = omega (arith, buckets);
      inside = omega (arith, hits);
      few = omega arith;
    }

zero-at : (n i : ℕ) → slice_get {X = ℕ} (replicate n 0) i ≡ (if nat_lt i n then Some 0 else None)
zero-at n i = go (nat_lt i n) refl
  where
    go : (b : Bool) → nat_lt i n ≡ b → slice_get {X = ℕ} (replicate n 0) i ≡ (if b then Some 0 else None)
    go true t =
        let lt = ltb-true i n t in
        slice_get-get_or (replicate n 0) i 0 (omega (arith, lt, length-replicate {A = ℕ} n 0)) ∙ ap (λ (x : ℕ). Some x) (get_or-replicate n i 0 0 lt)
    go false t = let past = ltb-false i n t in slice_get_past (replicate n 0) i (omega (arith, past, length-replicate {A = ℕ} n 0))

pub fresh-counts : (ranges : List RangeText) (rows : List RowText) → rows ≡ no_counts ranges → IsHistogram (hist_text ranges rows 0 0) []
fresh-counts ranges rows is = grind (arith, slice_get-map, zero-at)

some-within : (xs : List ℕ) (i : ℕ) → is_some (slice_get xs i) ≡ nat_lt i (length xs)
some-within xs i = go (nat_lt i (length xs)) refl
  where
    go : (b : Bool) → nat_lt i (length xs) ≡ b → is_some (slice_get xs i) ≡ b
    go true t = ap (λ (o : Option ℕ). is_some o) (slice_get-get_or xs i 0 (ltb-true i (length xs) t))
    go false t = ap (λ (o : Option ℕ). is_some o) (slice_get_past xs i (ltb-false i (length xs) t))

-- a histogram has the buckets that its map has
pub bucket-there : (ranges : List RangeText) (rows : List RowText) (k i : ℕ) → Shape ranges rows → is_some (bucket_in rows k i) ≡ has_bucket ranges k i
bucket-there ranges rows k i shape = go (slice_get rows k) (slice_get ranges k) (shape-at ranges rows k shape)
  where
    go : (q : Option RowText) (o : Option RangeText) → option_map (λ (row : RowText). length row.buckets) q ≡ option_map (λ (r : RangeText). r.buckets) o
        → is_some (option_and_then (λ (row : RowText). slice_get row.buckets i) q) ≡ option_map_or (λ (r : RangeText). nat_lt i r.buckets) o false
    go None None e = refl
    go None (Some r) e = cc e
    go (Some row) None e = cc e
    go (Some row) (Some r) e = let long : length row.buckets ≡ r.buckets = cc e in some-within row.buckets i ∙ ap (λ (n : ℕ). nat_lt i n) long
