-- The totals of a thread's regions after one span more, and the lines of regions one by one.
use Rattle.region_report.proofs.Words.{◌≡◌, ◌∙◌, ◌<◌, ◌≤◌, ◌+◌, ◌^◌, ◌∷◌, ◌++◌, ℕ, ℤ, zero, suc, Bool, true, false, not, List, [], None, Some, All}
use Rattle.region_report.proofs.Words.{cond, count_by, drop, length, map, take, refl, sym, ap, ap₂, arith, append_assoc, append-nil, get_or}
use Rattle.region_report.proofs.Words.{if◌then◌else◌, w64, int_wrapping_add, flat_map, list_any, position_or_len, Decides, bytes_eq, ltb-false}
use Rattle.region_report.proofs.Words.{or_parts, bytes_eq-Decides, drop_all, drop_more, length-map, map-append, take_more, All-cons, All-nil}
use Rattle.region_report.proofs.Words.{list_any-append, count_by-le-length, fold-append, sum_by-append, drop_at, Text, ends, is_begin, is_end}
use Rattle.region_report.proofs.Words.{name_of, names_of, total, total_text, region_text, thread_text, with_begin, with_end, with_name, Span}
use Rattle.region_report.proofs.Words.{pairwise, changed, ends_one, place_of, total_of, totals_text, with_instance, with_instance_at, RegionTotal}
use Rattle.std.specs.Prelude.{◌&&◌, ◌==◌, ◌||◌, fold, nat_lt, pos, position, replicate, slice_get, slice_set}

-- ---- names that differ

same_name : (a b : Text) → bytes_eq a b ≡ true → a ≡ b
same_name a b e = (bytes_eq-Decides a b).0 e

bytes_eq-sym : (a b : Text) → bytes_eq a b ≡ bytes_eq b a
bytes_eq-sym a b = go (bytes_eq a b) (bytes_eq b a) (bytes_eq-Decides a b) (bytes_eq-Decides b a)
  where
    go : (p q : Bool) → Decides p (a ≡ b) → Decides q (b ≡ a) → p ≡ q
    go true true d e = refl
    go false false d e = refl
    go true false d e = let f : false ≡ true = e.1 (sym (d.0 refl)) in cc
    go false true d e = let f : false ≡ true = d.1 (sym (e.0 refl)) in cc

-- the name is not one of these
abbrev pub Differs : Text → List Text → Type 0
Differs name names = list_any (λ n. bytes_eq n name) names ≡ false

-- no name comes twice
abbrev pub AreDistinct : List Text → Type 0
AreDistinct [] = Unit {0}
AreDistinct (name ∷ names) = Differs name names × AreDistinct names

differs_last : (name other : Text) (names : List Text) → Differs name names → bytes_eq other name ≡ false → Differs name (names ++ other ∷ [])
differs_last name other names d e = list_any-append (λ n. bytes_eq n name) names (other ∷ []) ∙ rw (d, e) refl

distinct_last : (names : List Text) (name : Text) → AreDistinct names → Differs name names → AreDistinct (names ++ name ∷ [])
distinct_last [] name d e = (refl, tt)
distinct_last (n ∷ ns) name d e =
    let parts = or_parts (bytes_eq n name) (list_any (λ m. bytes_eq m name) ns) e in
    (differs_last n name ns d.0 (bytes_eq-sym name n ∙ parts.0), distinct_last ns name d.1 parts.1)

distinct_with_name : (names : List Text) (name : Text) → AreDistinct names → AreDistinct (with_name names name)
distinct_with_name names name d = go (list_any (λ n. bytes_eq n name) names) refl
  where
    go : (b : Bool) → list_any (λ n. bytes_eq n name) names ≡ b → AreDistinct (if b then names else names ++ name ∷ [])
    go true e = d
    go false e = distinct_last names name d e

distinct_with_begin : (thread : ℕ) (names : List Text) (s : Span) → AreDistinct names → AreDistinct (with_begin thread names s)
distinct_with_begin thread names s d = go ((s.line.thread == thread) && is_begin s.line.call)
  where
    go : (b : Bool) → AreDistinct (if b then with_name names (name_of s.line.call) else names)
    go true = distinct_with_name names (name_of s.line.call) d
    go false = d

distinct_fold : (thread : ℕ) (spans : List Span) (names : List Text) → AreDistinct names → AreDistinct (fold (with_begin thread) names spans)
distinct_fold thread [] names d = d
distinct_fold thread (s ∷ spans) names d = distinct_fold thread spans (with_begin thread names s) (distinct_with_begin thread names s d)

pub names_distinct : (thread : ℕ) (spans : List Span) → AreDistinct (names_of thread spans)
names_distinct thread spans = distinct_fold thread spans [] tt

-- ---- one name more

any_seen : {X : Type 0} (view : X → Text) (p : X → Bool) (name : Text) (xs : List X) → ((x : X) → p x ≡ bytes_eq (view x) name) → list_any p xs ≡ list_any (λ n. bytes_eq n name) (map view xs)
any_seen view p name [] h = refl
any_seen view p name (x ∷ xs) h = ap₂ (λ a b. a || b) (h x) (any_seen view p name xs h)

-- what the names are after an insertion
pub inserted : {X : Type 0} (view : X → Text) (eq : X → X → Bool) (old new : List X) (x : X) → ((y : X) → eq x y ≡ bytes_eq (view x) (view y)) →
    new ≡ (if list_any (eq x) old then old else old ++ x ∷ []) → map view new ≡ with_name (map view old) (view x)
inserted view eq old new x h e =
    ap (map view) e ∙ go (list_any (eq x) old)
    ∙ ap (λ b. if b then map view old else map view old ++ view x ∷ []) (any_seen view (eq x) (view x) old (λ y. h y ∙ bytes_eq-sym (view x) (view y)))
  where
    go : (b : Bool) → map view (if b then old else old ++ x ∷ []) ≡ (if b then map view old else map view old ++ view x ∷ [])
    go true = refl
    go false = map-append view old (x ∷ [])

-- ---- the place of a name

place_seen : {X : Type 0} (view : X → Text) (p : Text → Bool) (xs : List X) → position_or_len (λ x. p (view x)) xs ≡ position_or_len p (map view xs)
place_seen view p [] = refl
place_seen view p (x ∷ xs) = ap (λ n. cond (not (p (view x))) (1 + n) 0) (place_seen view p xs)

pub position_seen : {X : Type 0} (view : X → Text) (p : Text → Bool) (xs : List X) → position (λ x. p (view x)) xs ≡ position p (map view xs)
position_seen view p xs = ap₂ (λ k n. cond (nat_lt k n) (Some k) None) (place_seen view p xs) (sym (length-map xs view))

-- ---- the totals after one span more

count_last : {Y : Type 0} (p : Y → Bool) (ys : List Y) (y : Y) → count_by p (ys ++ y ∷ []) ≡ count_by p ys + cond (p y) 1 0
count_last p ys y = sum_by-append (λ z. cond (p z) 1 0) ys (y ∷ []) ∙ ap (λ n. count_by p ys + n) (let one : count_by p (y ∷ []) ≡ cond (p y) 1 0 = omega arith in one)

one_total : (events thread : ℕ) (spans : List Span) (s : Span) (name : Text) (b : Bool) → ends thread name s ≡ b →
    total_of events thread (spans ++ s ∷ []) name ≡ (if b then with_instance s.values (total_of events thread spans name) else total_of events thread spans name)
one_total events thread spans s name b e =
    ap₂ (λ (n : ℕ) (vs : List ℤ). let t : RegionTotal = record { instances = n; values = vs } in t)
    (count_last (ends thread name) spans s ∙ ap (λ c. count_by (ends thread name) spans + cond c 1 0) e)
    (fold-append (with_end thread name) (replicate events (pos 0)) spans (s ∷ []) ∙ ap (λ c. if c then pairwise (int_wrapping_add w64) (total events thread name spans) s.values else total events thread name spans) e)
    ∙ by b
  where
    t : RegionTotal
    t = total_of events thread spans name

    by : (c : Bool) → record { instances = t.instances + cond c 1 0; values = if c then pairwise (int_wrapping_add w64) t.values s.values else t.values } ≡ (if c then with_instance s.values t else t)
    by true = refl
    by false = ap (λ (n : ℕ). let u : RegionTotal = record { instances = n; values = t.values } in u) (omega arith)

ends_here : (thread : ℕ) (s : Span) (name : Text) (b : Bool) → ends_one thread s ≡ b → ends thread name s ≡ (b && bytes_eq (name_of s.line.call) name)
ends_here thread s name b e = go (s.line.thread == thread) (is_end s.line.call) e
  where
    go : (p q : Bool) → (p && q) ≡ b → (p && (q && bytes_eq (name_of s.line.call) name)) ≡ (b && bytes_eq (name_of s.line.call) name)
    go true q h = ap (λ c. c && bytes_eq (name_of s.line.call) name) h
    go false q h = ap (λ c. c && bytes_eq (name_of s.line.call) name) h

-- if no instance of these regions ends
same_totals : (events thread : ℕ) (spans : List Span) (s : Span) (names : List Text) → list_any (λ name. ends thread name s) names ≡ false →
    map (total_of events thread (spans ++ s ∷ [])) names ≡ map (total_of events thread spans) names
same_totals events thread spans s [] h = refl
same_totals events thread spans s (name ∷ names) h =
    let parts = or_parts (ends thread name s) (list_any (λ n. ends thread n s) names) h in
    ap₂ (λ t ts. t ∷ ts) (one_total events thread spans s name false parts.0) (same_totals events thread spans s names parts.1)

-- the span ends an instance of none of these regions
others_end : (thread : ℕ) (s : Span) (name : Text) (names : List Text) → ends_one thread s ≡ true → bytes_eq (name_of s.line.call) name ≡ true → Differs name names →
    list_any (λ n. ends thread n s) names ≡ false
others_end thread s name [] e is d = refl
others_end thread s name (n ∷ ns) e is d =
    let parts = or_parts (bytes_eq n name) (list_any (λ m. bytes_eq m name) ns) d in
    let here : ends thread n s ≡ false = ends_here thread s n true e ∙ ap (λ (m : Text). bytes_eq m n) (same_name (name_of s.line.call) name is) ∙ bytes_eq-sym name n ∙ parts.0 in
    rw (here, others_end thread s name ns e is parts.1) refl

one_on : (n : ℕ) (values : List ℤ) (t : RegionTotal) (ts : List RegionTotal) → changed (1 + n) values (t ∷ ts) ≡ t ∷ changed n values ts
one_on n values t ts = let e : 1 + n ≡ suc n = omega arith in rw e refl

changed_total : (events thread : ℕ) (spans : List Span) (s : Span) (names : List Text) → AreDistinct names → ends_one thread s ≡ true →
    changed (position_or_len (bytes_eq (name_of s.line.call)) names) s.values (map (total_of events thread spans) names) ≡ map (total_of events thread (spans ++ s ∷ [])) names
changed_total events thread spans s [] d e = refl
changed_total events thread spans s (name ∷ names) d e = go (bytes_eq (name_of s.line.call) name) refl (changed_total events thread spans s names d.1 e)
  where
    now : Text → RegionTotal
    now = total_of events thread spans

    go : (b : Bool) → bytes_eq (name_of s.line.call) name ≡ b →
        changed (position_or_len (bytes_eq (name_of s.line.call)) names) s.values (map (total_of events thread spans) names) ≡ map (total_of events thread (spans ++ s ∷ [])) names →
        changed (cond (not b) (1 + position_or_len (bytes_eq (name_of s.line.call)) names) 0) s.values (now name ∷ map now names)
        ≡ total_of events thread (spans ++ s ∷ []) name ∷ map (total_of events thread (spans ++ s ∷ [])) names
    go true is more =
        ap₂ (λ t ts. t ∷ ts) (sym (one_total events thread spans s name true (ends_here thread s name true e ∙ is)))
        (sym (same_totals events thread spans s names (others_end thread s name names e is d.0)))
    go false is more =
        one_on (position_or_len (bytes_eq (name_of s.line.call)) names) s.values (now name) (map now names)
        ∙ ap₂ (λ t ts. t ∷ ts) (sym (one_total events thread spans s name false (ends_here thread s name true e ∙ is))) more

past : (place : ℕ) (values : List ℤ) (totals : List RegionTotal) → length totals ≤ place → changed place values totals ≡ totals
past place values [] h = refl
past zero values (t ∷ ts) h = absurd (omega arith)
past (suc place) values (t ∷ ts) h = ap (λ us. t ∷ us) (past place values ts (omega arith))

no_one_ends : (thread : ℕ) (s : Span) (names : List Text) → ends_one thread s ≡ false → list_any (λ n. ends thread n s) names ≡ false
no_one_ends thread s [] e = refl
no_one_ends thread s (name ∷ names) e = rw (ends_here thread s name false e, no_one_ends thread s names e) refl

-- the totals after one span more
pub totals_more : (events thread : ℕ) (spans : List Span) (s : Span) (names : List Text) → AreDistinct names →
    with_instance_at (place_of names thread s) s.values (map (total_of events thread spans) names) ≡ map (total_of events thread (spans ++ s ∷ [])) names
totals_more events thread spans s names d = go (ends_one thread s) refl
  where
    sought : ℕ
    sought = position_or_len (bytes_eq (name_of s.line.call)) names

    found : (b : Bool) → nat_lt sought (length names) ≡ b → with_instance_at (cond b (Some sought) None) s.values (map (total_of events thread spans) names)
        ≡ changed sought s.values (map (total_of events thread spans) names)
    found true h = refl
    found false h = sym (past sought s.values (map (total_of events thread spans) names) (omega (arith, ltb-false sought (length names) h, length-map names (total_of events thread spans))))

    go : (b : Bool) → ends_one thread s ≡ b →
        with_instance_at (if b then position (bytes_eq (name_of s.line.call)) names else None) s.values (map (total_of events thread spans) names)
        ≡ map (total_of events thread (spans ++ s ∷ [])) names
    go true e = found (nat_lt sought (length names)) refl ∙ changed_total events thread spans s names d e
    go false e = sym (same_totals events thread spans s names (no_one_ends thread s names e))

no_count : (events thread : ℕ) (names : List Text) → map (total_of events thread []) names ≡ replicate (length names) (record { instances = 0; values = replicate events (pos 0) })
no_count events thread [] = refl
no_count events thread (name ∷ names) = ap (λ ts. record { instances = 0; values = replicate events (pos 0) } ∷ ts) (no_count events thread names)

-- the totals before all spans
pub totals_none : {X : Type 0} (events thread n : ℕ) (view : X → Text) (names : List X) (totals : List RegionTotal) → n ≡ length names →
    totals ≡ replicate n (record { instances = 0; values = replicate events (pos 0) }) → totals ≡ map (total_of events thread []) (map view names)
totals_none events thread n view names totals long e =
    e ∙ ap (λ k. replicate k (record { instances = 0; values = replicate events (pos 0) })) (long ∙ sym (length-map names view)) ∙ sym (no_count events thread (map view names))

pub few_instances : (events thread : ℕ) (spans : List Span) (names : List Text) → length spans < 2 ^ 63 → All (λ t. t.instances < 2 ^ 63) (map (total_of events thread spans) names)
few_instances events thread spans [] h = All-nil (λ (t : RegionTotal). t.instances < 2 ^ 63)
few_instances events thread spans (name ∷ names) h =
    All-cons (λ (t : RegionTotal). t.instances < 2 ^ 63) (total_of events thread spans name) (map (total_of events thread spans) names)
    (let le = count_by-le-length (ends thread name) spans in omega (arith, le)) (few_instances events thread spans names h)

pub as_many : {X : Type 0} (events thread : ℕ) (spans : List Span) (view : X → Text) (names : List X) (totals : List RegionTotal) → totals ≡ map (total_of events thread spans) (map view names) → length names ≡ length totals
as_many events thread spans view names totals e = sym (ap (λ (ts : List RegionTotal). length ts) e ∙ length-map (map view names) (total_of events thread spans) ∙ length-map names view)

-- ---- the lines

lines_for : (events thread : ℕ) (spans : List Span) (names : List Text) → totals_text thread names (map (total_of events thread spans) names) ≡ flat_map (region_text events spans thread) names
lines_for events thread spans [] = refl
lines_for events thread spans (name ∷ names) = ap (λ (t : Text). region_text events spans thread name ++ t) (lines_for events thread spans names)

-- the lines of a thread's regions
pub lines_told : {X : Type 0} (events thread : ℕ) (spans : List Span) (view : X → Text) (names : List X) (totals : List RegionTotal) → map view names ≡ names_of thread spans →
    totals ≡ map (total_of events thread spans) (map view names) → totals_text thread (map view names) totals ≡ thread_text events spans thread
lines_told events thread spans view names totals named counted =
    ap (totals_text thread (map view names)) counted ∙ lines_for events thread spans (map view names) ∙ ap (flat_map (region_text events spans thread)) named

-- the line of one region more
pub line_more : (thread i : ℕ) (names : List Text) (totals : List RegionTotal) (name : Text) (t : RegionTotal) (now after all : Text) → slice_get names i ≡ Some name →
    i < length totals → t ≡ get_or totals i t → after ≡ now ++ total_text thread name t.instances t.values →
    now ++ totals_text thread (drop i names) (drop i totals) ≡ all → after ++ totals_text thread (drop (i + 1) names) (drop (i + 1) totals) ≡ all
line_more thread i names totals name t now after all is small is' step so_far =
    let there : drop i totals ≡ t ∷ drop (i + 1) totals = drop_more totals i t small ∙ ap (λ u. u ∷ drop (i + 1) totals) (sym is') in
    let e = rw (drop_at names i name is, there) at so_far in
    rw (step, append_assoc) e

pub lines_all : (thread i : ℕ) (names : List Text) (totals : List RegionTotal) (now all : Text) → length names ≤ i → now ++ totals_text thread (drop i names) (drop i totals) ≡ all → now ≡ all
lines_all thread i names totals now all past so_far =
    let none : drop i names ≡ [] = drop_all i names past in
    let e = rw (none, append-nil) at so_far in e

-- the spans up to one more
pub one_more : {X Y : Type 0} (view : X → Y) (xs : List X) (i : ℕ) (x : X) → i < length xs → x ≡ get_or xs i x → map view (take (i + 1) xs) ≡ map view (take i xs) ++ view x ∷ []
one_more view xs i x small is = ap (map view) (take_more xs i x small ∙ ap (λ y. take i xs ++ y ∷ []) (sym is)) ∙ map-append view (take i xs) (x ∷ [])

-- one instance more at a place that is there
pub set_total : (place : ℕ) (values : List ℤ) (totals : List RegionTotal) (t new : RegionTotal) → place < length totals → t ≡ get_or totals place t → new ≡ with_instance values t →
    slice_set totals place new ≡ changed place values totals
set_total place values [] t new small is e = absurd (omega arith)
set_total zero values (x ∷ xs) t new small is e = ap (λ y. y ∷ xs) (e ∙ ap (with_instance values) is)
set_total (suc place) values (x ∷ xs) t new small is e = ap (λ ys. x ∷ ys) (set_total place values xs t new (omega arith) is e)
