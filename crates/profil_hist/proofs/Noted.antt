-- One program counter more in a histogram.
use Rattle.profil_hist.proofs.Words.{◌≡◌, ◌∙◌, ◌+◌, ◌<◌, ◌≤◌, ◌^◌, ◌∷◌, ◌++◌, ℕ, zero, suc, List, [], Option, Some, None, Bool, true, false, map}
use Rattle.profil_hist.proofs.Words.{length, get_or, refl, sym, ap, subst, arith, eq-eqb, length-append, set, length-set, mul_comm, mul-le-mul_right}
use Rattle.profil_hist.proofs.Words.{eqb-true, ltb-false, le-leb, leb-true, lt-ltb, ltb-true, and_parts, false_from_ne_true, and_from, list_any_at}
use Rattle.profil_hist.proofs.Words.{sum_by-append, sum_by-set, get_or_from_slice_get, slice_get-map, slice_get_within, list_any, option_and_then}
use Rattle.profil_hist.proofs.Words.{option_map_or, all_at, none_any, IsThere, RowText, met, with_hit, with_note, HistText, IsHist, IsHistogram}
use Rattle.profil_hist.proofs.Words.{bucket_count, range_count, IsPlaceOf, NoTwo, RangeText, in_bucket, in_range, overlaps, Place}
use Rattle.std.specs.Prelude.{◌&&◌, ◌==◌, count_by, if◌then◌else◌, nat_le, nat_lt, not, option_map, slice_get, sum, sum_by}

-- ---- tests and numbers

pub true-not-false : {X : Type 0} (b : Bool) → b ≡ true → b ≡ false → X
true-not-false b e f = let no : true ≡ false = sym e ∙ f in cc no

-- ---- buckets and ranges

pub record Inside (low high n : ℕ) : Type 0 where
  pub lower : low ≤ n
  pub upper : n < high

pub inside : (low high n : ℕ) → (nat_le low n && nat_lt n high) ≡ true → Inside low high n
inside low high n e = let p = and_parts _ _ e in record { lower = leb-true low n p.0; upper = ltb-true n high p.1 }

pub within : (low high n : ℕ) → low ≤ n → n < high → (nat_le low n && nat_lt n high) ≡ true
within low high n l h = and_from _ _ (le-leb low n l) (lt-ltb n high h)

-- what a bucket holds, its range holds
pub bucket-inside : (r : RangeText) (i pc : ℕ) → i < r.buckets → in_bucket r i pc ≡ true → in_range r pc ≡ true
bucket-inside r i pc lt e = grind (arith, inside, mul-le-mul_right, mul_comm, within)

not-above : (r : RangeText) (i j pc : ℕ) → in_bucket r i pc ≡ true → in_bucket r j pc ≡ true → j ≤ i
not-above r i j pc e f = grind (arith, inside, ltb-true, mul-le-mul_right, ltb-false)

bucket-unique : (r : RangeText) (i j pc : ℕ) → in_bucket r i pc ≡ true → in_bucket r j pc ≡ true → i ≡ j
bucket-unique r i j pc e f = let a = not-above r i j pc e f in let b = not-above r j i pc f e in omega (arith, a, b)

shared : (r s : RangeText) (pc : ℕ) → in_range r pc ≡ true → in_range s pc ≡ true → overlaps r s ≡ true
shared r s pc e f = grind (arith, inside, and_from, lt-ltb)

-- two places of a map whose ranges overlap are one
pub two-apart : (ranges : List RangeText) (k m : ℕ) (r s : RangeText) → NoTwo overlaps ranges → slice_get ranges k ≡ Some r → slice_get ranges m ≡ Some s
    → overlaps r s ≡ true → overlaps s r ≡ true → k ≡ m
two-apart [] k m r s apart a b e f = cc a
two-apart (x ∷ rest) zero zero r s apart a b e f = refl
two-apart (x ∷ rest) zero (suc m) r s apart a b e f =
    let is : x ≡ r = cc a in
    let apart_still : overlaps r s ≡ false = subst (λ (y : RangeText). overlaps y s ≡ false) is (all_at (λ (y : RangeText). overlaps x y ≡ false) rest m s apart.0 b) in
    true-not-false (overlaps r s) e apart_still
two-apart (x ∷ rest) (suc k) zero r s apart a b e f =
    let is : x ≡ s = cc b in
    let apart_still : overlaps s r ≡ false = subst (λ (y : RangeText). overlaps y r ≡ false) is (all_at (λ (y : RangeText). overlaps x y ≡ false) rest k r apart.0 a) in
    true-not-false (overlaps s r) f apart_still
two-apart (x ∷ rest) (suc k) (suc m) r s apart a b e f = ap (λ n. suc n) (two-apart rest k m r s apart.1 a b e f)

-- an address is in one range at most
range-unique : (ranges : List RangeText) (k m : ℕ) (r s : RangeText) (pc : ℕ) → NoTwo overlaps ranges → slice_get ranges k ≡ Some r → slice_get ranges m ≡ Some s
    → in_range r pc ≡ true → in_range s pc ≡ true → k ≡ m
range-unique ranges k m r s pc apart a b e f = two-apart ranges k m r s apart a b (shared r s pc e f) (shared s r pc f e)

-- ---- counts of a list with one item more

count-yes : (p : ℕ → Bool) (xs : List ℕ) (x : ℕ) → p x ≡ true → count_by p (xs ++ x ∷ []) ≡ count_by p xs + 1
count-yes p xs x h = grind (arith, sum_by-append)

count-no : (p : ℕ → Bool) (xs : List ℕ) (x : ℕ) → p x ≡ false → count_by p (xs ++ x ∷ []) ≡ count_by p xs
count-no p xs x h = grind (arith, sum_by-append)

-- ---- a list with an item changed

pub get-same : {X : Type 0} (xs : List X) (k : ℕ) (x v : X) → slice_get xs k ≡ Some x → slice_get (set xs k v) k ≡ Some v
get-same [] k x v e = cc e
get-same (y ∷ xs) zero x v e = refl
get-same (y ∷ xs) (suc k) x v e = get-same xs k x v e

get-other : {X : Type 0} (xs : List X) (k j : ℕ) (v : X) → (j ≡ k → ⊥) → slice_get (set xs k v) j ≡ slice_get xs j
get-other [] k j v ne = refl
get-other (y ∷ xs) zero zero v ne = absurd (ne refl)
get-other (y ∷ xs) zero (suc j) v ne = refl
get-other (y ∷ xs) (suc k) zero v ne = refl
get-other (y ∷ xs) (suc k) (suc j) v ne = get-other xs k j v (λ e. ne (ap (λ n. suc n) e))

map-same : {X Y : Type 0} (f : X → Y) (xs : List X) (k : ℕ) (x v : X) → slice_get xs k ≡ Some x → f v ≡ f x → map f (set xs k v) ≡ map f xs
map-same f [] k x v e h = refl
map-same f (y ∷ xs) zero x v e h = let is : y ≡ x = cc e in ap (λ z. z ∷ map f xs) (h ∙ sym (ap f is))
map-same f (y ∷ xs) (suc k) x v e h = ap (λ zs. f y ∷ zs) (map-same f xs k x v e h)

-- ---- where a program counter falls

pub record Spot (ranges : List RangeText) (rows : List RowText) (pc : ℕ) (p : Place) (r : RangeText) (row : RowText) : Type 0 where
  pub at_range : slice_get ranges p.range ≡ Some r
  pub at_row : slice_get rows p.range ≡ Some row
  pub holds : in_bucket r p.bucket pc ≡ true
  pub below : p.bucket < r.buckets
  pub long : length row.buckets ≡ r.buckets

abbrev pub Shape : List RangeText → List RowText → Type 0
Shape ranges rows = map (λ (row : RowText). length row.buckets) rows ≡ map (λ (r : RangeText). r.buckets) ranges

pub shape-at : (ranges : List RangeText) (rows : List RowText) (k : ℕ) → Shape ranges rows
    → option_map (λ (row : RowText). length row.buckets) (slice_get rows k) ≡ option_map (λ (r : RangeText). r.buckets) (slice_get ranges k)
shape-at ranges rows k shape =
    sym (slice_get-map (λ (row : RowText). length row.buckets) rows k) ∙ ap (λ (xs : List ℕ). slice_get xs k) shape ∙ slice_get-map (λ (r : RangeText). r.buckets) ranges k

pub spot : (ranges : List RangeText) (rows : List RowText) (pc : ℕ) (p : Place) → Shape ranges rows → IsPlaceOf ranges pc (Some p) → (r : RangeText) × (row : RowText) × Spot ranges rows pc p r row
spot ranges rows pc p shape h = go (slice_get ranges p.range) (slice_get rows p.range) refl refl h (shape-at ranges rows p.range shape)
  where
    go : (o : Option RangeText) (q : Option RowText) → slice_get ranges p.range ≡ o → slice_get rows p.range ≡ q
        → option_map (λ (r : RangeText). in_bucket r p.bucket pc && nat_lt p.bucket r.buckets) o ≡ Some true
        → option_map (λ (row : RowText). length row.buckets) q ≡ option_map (λ (r : RangeText). r.buckets) o
        → (r : RangeText) × (row : RowText) × Spot ranges rows pc p r row
    go None q a b h s = cc h
    go (Some r) None a b h s = cc s
    go (Some r) (Some row) a b h s =
        let t : (in_bucket r p.bucket pc && nat_lt p.bucket r.buckets) ≡ true = cc h in
        let is = and_parts _ _ t in
        (r, row, record { at_range = a; at_row = b; holds = is.0; below = ltb-true p.bucket r.buckets is.1; long = cc s })

-- ---- ranges that do not hold it keep their counts

bucket-others : (ranges : List RangeText) (k i : ℕ) (pcs : List ℕ) (pc : ℕ) → ((s : RangeText) → slice_get ranges k ≡ Some s → in_range s pc ≡ false)
    → bucket_count ranges k i pcs ≡ bucket_count ranges k i (pcs ++ pc ∷ [])
bucket-others ranges k i pcs pc absent = grind (arith, false_from_ne_true, true-not-false, bucket-inside, ltb-true, count-no)

range-others : (ranges : List RangeText) (k : ℕ) (pcs : List ℕ) (pc : ℕ) → ((s : RangeText) → slice_get ranges k ≡ Some s → in_range s pc ≡ false)
    → range_count ranges k pcs ≡ range_count ranges k (pcs ++ pc ∷ [])
range-others ranges k pcs pc absent = grind (arith, count-no)

-- ---- one in no range

abbrev pub passed : HistText → HistText
passed h = record { map = h.map; rows = h.rows; outside = h.outside + 1; total = h.total + 1 }

pub passed-counts : (h : HistText) (pc : ℕ) (pcs : List ℕ) → IsPlaceOf h.map pc None → IsHistogram h pcs → IsHistogram (passed h) (pcs ++ pc ∷ [])
passed-counts h pc pcs none is =
    let absent = λ (k : ℕ) (s : RangeText) (e : slice_get h.map k ≡ Some s). none_any (λ (r : RangeText). in_range r pc) h.map k s none e in
    let out : not (list_any (λ (r : RangeText). in_range r pc) h.map) ≡ true = rw none refl in
    let more = count-yes (λ (x : ℕ). not (list_any (λ (r : RangeText). in_range r x) h.map)) pcs pc out in
    record {
      buckets = λ k i. is.buckets k i ∙ bucket-others h.map k i pcs pc (absent k);
      hits = λ k. is.hits k ∙ range-others h.map k pcs pc (absent k);
      outside = ap (λ (n : ℕ). n + 1) is.outside ∙ sym more;
      total = omega (arith, is.total, length-append pcs (pc ∷ []));
    }

-- ---- one in a bucket

bucket-noted : (r : RangeText) (buckets : List ℕ) (j pc : ℕ) (pcs : List ℕ) (i : ℕ) → in_bucket r j pc ≡ true → j < r.buckets
    → ((n : ℕ) → slice_get buckets n ≡ (if nat_lt n r.buckets then Some (count_by (in_bucket r n) pcs) else None))
    → slice_get (set buckets j (get_or buckets j 0 + 1)) i ≡ (if nat_lt i r.buckets then Some (count_by (in_bucket r i) (pcs ++ pc ∷ [])) else None)
bucket-noted r buckets j pc pcs i holds lt old = grind (arith, lt-ltb, set, get-same, get_or_from_slice_get, count-yes, eqb-true, false_from_ne_true, true-not-false, bucket-unique, get-other, count-no)

abbrev pub noted : Place → HistText → HistText
noted p h = record { map = h.map; rows = with_note p h.rows; outside = h.outside; total = h.total + 1 }

pub noted-rows : (rows : List RowText) (p : Place) (row : RowText) → slice_get rows p.range ≡ Some row → with_note p rows ≡ set rows p.range (with_hit p.bucket row)
noted-rows rows p row e = ap (λ (o : Option RowText). option_map_or (λ (x : RowText). set rows p.range (with_hit p.bucket x)) o rows) e

-- the counts of the rows with one more
record RowsCounted (ranges : List RangeText) (rows : List RowText) (pcs : List ℕ) : Type 0 where
  buckets : (k i : ℕ) → option_and_then (λ (row : RowText). slice_get row.buckets i) (slice_get rows k) ≡ bucket_count ranges k i pcs
  hits : (k : ℕ) → option_map (λ (row : RowText). row.hits) (slice_get rows k) ≡ range_count ranges k pcs

noted-counted : (ranges : List RangeText) (rows : List RowText) (pc : ℕ) (p : Place) (r : RangeText) (row : RowText) (pcs : List ℕ) → NoTwo overlaps ranges
    → Spot ranges rows pc p r row → RowsCounted ranges rows pcs → RowsCounted ranges (set rows p.range (with_hit p.bucket row)) (pcs ++ pc ∷ [])
noted-counted ranges rows pc p r row pcs apart s is = record { buckets = λ k i. bucket k i (k == p.range) refl; hits = λ k. hit k (k == p.range) refl }
  where
    in_r : in_range r pc ≡ true
    in_r = bucket-inside r p.bucket pc s.below s.holds

    here : slice_get (set rows p.range (with_hit p.bucket row)) p.range ≡ Some (with_hit p.bucket row)
    here = get-same rows p.range row (with_hit p.bucket row) s.at_row

    absent : (k : ℕ) → (k == p.range) ≡ false → (x : RangeText) → slice_get ranges k ≡ Some x → in_range x pc ≡ false
    absent k e x at =
        false_from_ne_true (in_range x pc) (λ h. true-not-false (k == p.range) (eq-eqb k p.range (range-unique ranges k p.range x r pc apart at s.at_range h in_r)) e)

    other : (k : ℕ) → (k == p.range) ≡ false → slice_get (set rows p.range (with_hit p.bucket row)) k ≡ slice_get rows k
    other k e = get-other rows p.range k (with_hit p.bucket row) (λ q. true-not-false (k == p.range) (eq-eqb k p.range q) e)

    old : (n : ℕ) → slice_get row.buckets n ≡ (if nat_lt n r.buckets then Some (count_by (in_bucket r n) pcs) else None)
    old n =
        sym (ap (option_and_then (λ (x : RowText). slice_get x.buckets n)) s.at_row) ∙ is.buckets p.range n
        ∙ ap (option_and_then (λ (x : RangeText). if nat_lt n x.buckets then Some (count_by (in_bucket x n) pcs) else None)) s.at_range

    bucket-here : (i : ℕ) → option_and_then (λ (x : RowText). slice_get x.buckets i) (slice_get (set rows p.range (with_hit p.bucket row)) p.range) ≡ bucket_count ranges p.range i (pcs ++ pc ∷ [])
    bucket-here i =
        ap (option_and_then (λ (x : RowText). slice_get x.buckets i)) here ∙ bucket-noted r row.buckets p.bucket pc pcs i s.holds s.below old
        ∙ sym (ap (option_and_then (λ (x : RangeText). if nat_lt i x.buckets then Some (count_by (in_bucket x i) (pcs ++ pc ∷ [])) else None)) s.at_range)

    bucket : (k i : ℕ) (b : Bool) → (k == p.range) ≡ b
        → option_and_then (λ (x : RowText). slice_get x.buckets i) (slice_get (set rows p.range (with_hit p.bucket row)) k) ≡ bucket_count ranges k i (pcs ++ pc ∷ [])
    bucket k i true e =
        let P : ℕ → Type 0 = λ n. option_and_then (λ (x : RowText). slice_get x.buckets i) (slice_get (set rows p.range (with_hit p.bucket row)) n) ≡ bucket_count ranges n i (pcs ++ pc ∷ []) in
        subst P (sym (eqb-true k p.range e)) (bucket-here i)
    bucket k i false e =
        ap (option_and_then (λ (x : RowText). slice_get x.buckets i)) (other k e) ∙ is.buckets k i ∙ bucket-others ranges k i pcs pc (absent k e)

    was : Some row.hits ≡ Some (count_by (in_range r) pcs)
    was = sym (ap (option_map (λ (x : RowText). x.hits)) s.at_row) ∙ is.hits p.range ∙ ap (option_map (λ (x : RangeText). count_by (in_range x) pcs)) s.at_range

    hit-here : option_map (λ (x : RowText). x.hits) (slice_get (set rows p.range (with_hit p.bucket row)) p.range) ≡ range_count ranges p.range (pcs ++ pc ∷ [])
    hit-here =
        let n : row.hits ≡ count_by (in_range r) pcs = cc was in
        ap (option_map (λ (x : RowText). x.hits)) here ∙ ap (λ (m : ℕ). Some (m + 1)) n ∙ ap (λ (m : ℕ). Some m) (sym (count-yes (in_range r) pcs pc in_r))
        ∙ sym (ap (option_map (λ (x : RangeText). count_by (in_range x) (pcs ++ pc ∷ []))) s.at_range)

    hit : (k : ℕ) (b : Bool) → (k == p.range) ≡ b
        → option_map (λ (x : RowText). x.hits) (slice_get (set rows p.range (with_hit p.bucket row)) k) ≡ range_count ranges k (pcs ++ pc ∷ [])
    hit k true e =
        let P : ℕ → Type 0 = λ n. option_map (λ (x : RowText). x.hits) (slice_get (set rows p.range (with_hit p.bucket row)) n) ≡ range_count ranges n (pcs ++ pc ∷ []) in
        subst P (sym (eqb-true k p.range e)) hit-here
    hit k false e = ap (option_map (λ (x : RowText). x.hits)) (other k e) ∙ is.hits k ∙ range-others ranges k pcs pc (absent k e)

pub noted-counts : (h : HistText) (pc : ℕ) (p : Place) (pcs : List ℕ) → IsHist h → IsPlaceOf h.map pc (Some p) → IsHistogram h pcs → IsHistogram (noted p h) (pcs ++ pc ∷ [])
noted-counts h pc p pcs kept place is =
    let s = spot h.map h.rows pc p kept.shape place in
    let spotted : Spot h.map h.rows pc p s.0 s.1 = s.2 in
    let old : RowsCounted h.map h.rows pcs = record { buckets = is.buckets; hits = is.hits } in
    let new = noted-counted h.map h.rows pc p s.0 s.1 pcs kept.kept.apart spotted old in
    let rows = noted-rows h.rows p s.1 spotted.at_row in
    let now : RowsCounted h.map (with_note p h.rows) (pcs ++ pc ∷ []) = subst (λ (x : List RowText). RowsCounted h.map x (pcs ++ pc ∷ [])) (sym rows) new in
    let in_r = bucket-inside s.0 p.bucket pc spotted.below spotted.holds in
    let at : in_range (get_or h.map p.range s.0) pc ≡ true = rw (get_or_from_slice_get h.map p.range s.0 s.0 spotted.at_range) in_r in
    let some : list_any (λ (r : RangeText). in_range r pc) h.map ≡ true = list_any_at (λ (r : RangeText). in_range r pc) h.map p.range s.0 (slice_get_within h.map p.range s.0 spotted.at_range) at in
    let not_out : not (list_any (λ (r : RangeText). in_range r pc) h.map) ≡ false = rw some refl in
    record {
      buckets = now.buckets;
      hits = now.hits;
      outside = is.outside ∙ sym (count-no (λ (x : ℕ). not (list_any (λ (r : RangeText). in_range r x) h.map)) pcs pc not_out);
      total = omega (arith, is.total, length-append pcs (pc ∷ []));
    }

-- one number of a list made greater by one
sum-more : (xs : List ℕ) (i : ℕ) → i < length xs → sum (set xs i (get_or xs i 0 + 1)) ≡ sum xs + 1
sum-more xs i lt = let e = sum_by-set (λ (x : ℕ). x) xs i (get_or xs i 0 + 1) 0 lt in omega (arith, e)

-- a row's number grows by one
grown : (f : RowText → ℕ) (rows : List RowText) (k : ℕ) (row new : RowText) → slice_get rows k ≡ Some row → f new ≡ f row + 1 → sum_by f (set rows k new) ≡ sum_by f rows + 1
grown f rows k row new e h =
    let lt = slice_get_within rows k row e in
    let same : f (get_or rows k row) ≡ f row = ap f (get_or_from_slice_get rows k row row e) in
    let s = sum_by-set f rows k new row lt in
    omega (arith, same, s, h)

pub noted-kept : (h : HistText) (pc : ℕ) (p : Place) → h.total < 2 ^ 63 → IsHist h → IsPlaceOf h.map pc (Some p) → IsHist (noted p h)
noted-kept h pc p room is place =
    let s = spot h.map h.rows pc p is.shape place in
    let spotted : Spot h.map h.rows pc p s.0 s.1 = s.2 in
    let rows = noted-rows h.rows p s.1 spotted.at_row in
    let lt : p.bucket < length s.1.buckets = omega (arith, spotted.below, spotted.long) in
    let long : length (with_hit p.bucket s.1).buckets ≡ length s.1.buckets = length-set s.1.buckets p.bucket (get_or s.1.buckets p.bucket 0 + 1) in
    let same : map (λ (x : RowText). length x.buckets) (with_note p h.rows) ≡ map (λ (x : RowText). length x.buckets) h.rows =
    ap (map (λ (x : RowText). length x.buckets)) rows ∙ map-same (λ (x : RowText). length x.buckets) h.rows p.range s.1 (with_hit p.bucket s.1) spotted.at_row long in
    let more : met (with_note p h.rows) ≡ met h.rows + 1 =
    ap met rows ∙ grown (λ (x : RowText). sum x.buckets) h.rows p.range s.1 (with_hit p.bucket s.1) spotted.at_row (sum-more s.1.buckets p.bucket lt) in
    let hits : sum_by (λ (x : RowText). x.hits) (with_note p h.rows) ≡ sum_by (λ (x : RowText). x.hits) h.rows + 1 =
    ap (sum_by (λ (x : RowText). x.hits)) rows ∙ grown (λ (x : RowText). x.hits) h.rows p.range s.1 (with_hit p.bucket s.1) spotted.at_row refl in
    record {
      kept = is.kept;
      shape = same ∙ is.shape;
      whole = omega (arith, more, is.whole);
      inside = omega (arith, hits, is.inside);
      few = omega arith;
    }

pub spotted-there : (ranges : List RangeText) (rows : List RowText) (pc : ℕ) (p : Place) → Shape ranges rows → IsPlaceOf ranges pc (Some p) → IsThere p rows
spotted-there ranges rows pc p shape place = grind (arith, spot, lt-ltb)
