-- Values at each place, and spans, one more at a time.
use Rattle.region_report.proofs.Words.{◌≡◌, ◌<◌, ◌≤◌, ◌+◌, ◌∷◌, ◌++◌, ℕ, ℤ, Bool, true, false, List, [], Some, length, drop, ap, refl, arith}
use Rattle.region_report.proofs.Words.{append_assoc, append-nil, get_or, length-append, min, nat_le, slice_get, leb-false, leb-true, drop_all}
use Rattle.region_report.proofs.Words.{drop_at, drop_item, is_reading, Span, pairwise, span, spans_at, spans_from, RegionLine}

pairs : (f : ℤ → ℤ → ℤ) (x y : ℤ) (xs ys : List ℤ) → pairwise f (x ∷ xs) (y ∷ ys) ≡ f x y ∷ pairwise f xs ys
unfolding pairwise
pairs f x y xs ys = refl

-- the values of one place more
pub pair_more : (f : ℤ → ℤ → ℤ) (xs ys now next all : List ℤ) (i : ℕ) (x y z : ℤ) → slice_get xs i ≡ Some x → slice_get ys i ≡ Some y → z ≡ f x y → next ≡ now ++ z ∷ [] →
    now ++ pairwise f (drop i xs) (drop i ys) ≡ all → next ++ pairwise f (drop (i + 1) xs) (drop (i + 1) ys) ≡ all
pair_more f xs ys now next all i x y z ex ey ez step so_far =
    let e = rw (drop_at xs i x ex, drop_at ys i y ey, pairs f x y (drop (i + 1) xs) (drop (i + 1) ys)) at so_far in
    rw (step, append_assoc, ez) e

no_pairs : (f : ℤ → ℤ → ℤ) (xs ys : List ℤ) → length ys ≤ 0 → pairwise f xs ys ≡ []
unfolding pairwise
no_pairs f [] ys h = refl
no_pairs f (x ∷ xs) [] h = refl
no_pairs f (x ∷ xs) (y ∷ ys) h = absurd (omega arith)

none_left : (f : ℤ → ℤ → ℤ) (xs ys : List ℤ) → length xs ≤ 0 → pairwise f xs ys ≡ []
unfolding pairwise
none_left f [] ys h = refl
none_left f (x ∷ xs) ys h = absurd (omega arith)

-- the values of all places
pub pairs_first : (f : ℤ → ℤ → ℤ) (xs ys now all : List ℤ) (i : ℕ) → length xs ≤ i → now ++ pairwise f (drop i xs) (drop i ys) ≡ all → now ≡ all
pairs_first f xs ys now all i past so_far =
    let none : drop i xs ≡ [] = drop_all i xs past in
    let e = rw (none, none_left f [] (drop i ys) (omega arith), append-nil) at so_far in e

pub pairs_second : (f : ℤ → ℤ → ℤ) (xs ys now all : List ℤ) (i : ℕ) → length ys ≤ i → now ++ pairwise f (drop i xs) (drop i ys) ≡ all → now ≡ all
pairs_second f xs ys now all i past so_far =
    let none : drop i ys ≡ [] = drop_all i ys past in
    let e = rw (none, no_pairs f (drop i xs) [] (omega arith), append-nil) at so_far in e

pub pairs_all : (f : ℤ → ℤ → ℤ) (xs ys now all : List ℤ) (i count : ℕ) → count ≡ min (length xs) (length ys) → count ≤ i → now ++ pairwise f (drop i xs) (drop i ys) ≡ all → now ≡ all
pairs_all f xs ys now all i count e past so_far = go (nat_le (length xs) (length ys)) refl
  where
    go : (b : Bool) → nat_le (length xs) (length ys) ≡ b → now ≡ all
    go true t = pairs_first f xs ys now all i (omega (arith, leb-true (length xs) (length ys) t, e)) so_far
    go false t = pairs_second f xs ys now all i (omega (arith, leb-false (length xs) (length ys) t, e)) so_far

-- ---- spans

pub reading : (readings : List (List ℤ)) (i : ℕ) (line : RegionLine) (lines : List RegionLine) → is_reading line ≡ true → spans_from readings i (line ∷ lines) ≡ span readings i line ∷ spans_from readings (i + 1) lines
unfolding spans_from
reading readings i line lines e = rw e refl

pub not_reading : (readings : List (List ℤ)) (i : ℕ) (line : RegionLine) (lines : List RegionLine) → is_reading line ≡ false → spans_from readings i (line ∷ lines) ≡ spans_from readings i lines
unfolding spans_from
not_reading readings i line lines e = rw e refl

-- the span of one line more, if it reads the counters
pub span_on : (readings : List (List ℤ)) (lines : List RegionLine) (k n m : ℕ) (line : RegionLine) (now next all : List Span) → k < length lines → line ≡ get_or lines k line → n ≡ length now → m ≡ length next →
    next ≡ now ++ spans_at readings n line → now ++ spans_from readings n (drop k lines) ≡ all → next ++ spans_from readings m (drop (k + 1) lines) ≡ all
span_on readings lines k n m line now next all small is long long' step so_far = go (is_reading line) refl
  where
    go : (b : Bool) → is_reading line ≡ b → next ++ spans_from readings m (drop (k + 1) lines) ≡ all
    go true t =
        let s : next ≡ now ++ span readings n line ∷ [] = rw t at step in
        let e = rw (drop_item lines k line small is, reading readings n line (drop (k + 1) lines) t) at so_far in
        let more : m ≡ n + 1 = omega (arith, long', long, ap (λ (ss : List Span). length ss) s, length-append now (span readings n line ∷ [])) in
        rw (more, s, append_assoc) e
    go false t =
        let s : next ≡ now = rw (t, append-nil) at step in
        let e = rw (drop_item lines k line small is, not_reading readings n line (drop (k + 1) lines) t) at so_far in
        let same : m ≡ n = omega (arith, long', long, ap (λ (ss : List Span). length ss) s) in
        rw (same, s) e

no_spans : (readings : List (List ℤ)) (i : ℕ) (lines : List RegionLine) → length lines ≤ 0 → spans_from readings i lines ≡ []
unfolding spans_from
no_spans readings i [] h = refl
no_spans readings i (line ∷ lines) h = absurd (omega arith)

pub span_all : (readings : List (List ℤ)) (lines : List RegionLine) (k i : ℕ) (now all : List Span) → length lines ≤ k → now ++ spans_from readings i (drop k lines) ≡ all → now ≡ all
span_all readings lines k i now all past so_far =
    let none : drop k lines ≡ [] = drop_all k lines past in
    let e = rw (none, no_spans readings i [] (omega arith), append-nil) at so_far in e
