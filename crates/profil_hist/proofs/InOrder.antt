-- The search of the range of an address among the ranges in the order of their addresses.
use Rattle.profil_hist.proofs.Words.{◌≡◌, ◌∙◌, ◌+◌, ◌-◌, ◌*◌, ◌<◌, ◌≤◌, ◌∷◌, ℕ, zero, suc, List, [], Some, Bool, true, false}
use Rattle.profil_hist.proofs.Words.{length, get_or, refl, sym, ap, subst, arith, map, ◌++◌, eq-eqb, or-true}
use Rattle.profil_hist.proofs.Words.{mul-le-mul, eqb-true, lt-ltb, ltb-false, ltb-true, false_from_ne_true, and_from}
use Rattle.profil_hist.proofs.Words.{slice_get-get_or, slice_get-map, slice_get_within, ◌||◌, ◌==◌, nat_lt, option_map, slice_get, length-map}
use Rattle.profil_hist.proofs.Words.{All-push, list_any-append, All-permutation, list_any-IsPermutation, list_any, IsPartitionPoint, IsPermutation}
use Rattle.profil_hist.proofs.Words.{all_at, range_text, MapRange, ArePlacesOf, IsOrder, IsPlaced, IsMap, IsRange, RangeText, end_of}
use Rattle.profil_hist.proofs.Words.{in_range, RangeStart}
use Rattle.profil_hist.proofs.Noted.{inside, true-not-false, two-apart}

-- ---- the range of an address

any-at : {X : Type 0} (p : X → Bool) (xs : List X) → list_any p xs ≡ true → (j : ℕ) × (j < length xs) × ((d : X) → p (get_or xs j d) ≡ true)
any-at p [] e = cc e
any-at {X = X} p (x ∷ xs) e = go (p x) refl e (any-at p xs)
  where
    go : (b : Bool) → p x ≡ b → (b || list_any p xs) ≡ true → (list_any p xs ≡ true → (j : ℕ) × (j < length xs) × ((d : X) → p (get_or xs j d) ≡ true))
        → (j : ℕ) × (j < length (x ∷ xs)) × ((d : X) → p (get_or (x ∷ xs) j d) ≡ true)
    go true t e rest = (zero, omega arith, λ d. t)
    go false t e rest = let more = rest e in (suc more.0, omega (arith, more.1), more.2)

pub none-of-all : (ranges : List RangeText) (pc : ℕ) → ((k : ℕ) (r : RangeText) → slice_get ranges k ≡ Some r → in_range r pc ≡ false) → list_any (λ (r : RangeText). in_range r pc) ranges ≡ false
none-of-all [] pc h = refl
none-of-all (x ∷ rest) pc h = rw (h zero x refl, none-of-all rest pc (λ k r e. h (suc k) r e)) refl

start-of : (ranges : List RangeText) (p : RangeStart) (k : ℕ) (r : RangeText) → IsPlaced ranges p → p.range ≡ k → slice_get ranges k ≡ Some r → r.start ≡ p.start
start-of ranges p k r is same at = grind arith

-- the range that holds an address is among those that start at it or below it
record Below (r : RangeText) (places : List RangeStart) (below : ℕ) : Type 0 where
  place : ℕ
  under : place < below
  start : (d : RangeStart) → (get_or places place d).start ≡ r.start

range-below : (ranges : List RangeText) (places : List RangeStart) (pc below : ℕ) (d : RangeStart) → IsOrder ranges places
    → IsPartitionPoint (λ (p : RangeStart). p.start ≤ pc) (λ (p : RangeStart). pc < p.start) places below
    → (k : ℕ) (r : RangeText) → slice_get ranges k ≡ Some r → in_range r pc ≡ true → Below r places below
range-below ranges places pc below d order point k r at holds =
    let found = any-at (λ (p : RangeStart). p.range == k) places (order.all.each k (slice_get_within ranges k r at)) in
    let start : (e : RangeStart) → (get_or places found.0 e).start ≡ r.start =
    λ e. sym (start-of ranges (get_or places found.0 e) k r (order.all.right found.0 e found.1) (eqb-true _ k (found.2 e)) at) in
    let low = (inside r.start (end_of r) pc holds).lower in
    go (nat_lt found.0 below) found.0 refl found.1 start low
  where
    go : (b : Bool) (j : ℕ) → b ≡ nat_lt j below → j < length places → ((e : RangeStart) → (get_or places j e).start ≡ r.start) → r.start ≤ pc → Below r places below
    go true j t lt start low = record { place = j; under = ltb-true j below (sym t); start = start }
    go false j t lt start low =
        let past = ltb-false j below (sym t) in
        let above = point.1 j d past lt in
        absurd (omega (arith, above, start d, low))

-- none holds it if none starts at it or below it
pub none-below : (ranges : List RangeText) (places : List RangeStart) (pc : ℕ) (d : RangeStart) → IsOrder ranges places
    → IsPartitionPoint (λ (p : RangeStart). p.start ≤ pc) (λ (p : RangeStart). pc < p.start) places 0 → list_any (λ (r : RangeText). in_range r pc) ranges ≡ false
none-below ranges places pc d order point =
    none-of-all ranges pc
    (λ k r at. false_from_ne_true (in_range r pc) (λ h. let b = range-below ranges places pc 0 d order point k r at h in absurd (omega (arith, b.under))))

-- and if the last of those does not
pub none-last : (ranges : List RangeText) (places : List RangeStart) (pc below m : ℕ) (q : RangeText) (d : RangeStart) → IsMap ranges → IsOrder ranges places
    → IsPartitionPoint (λ (p : RangeStart). p.start ≤ pc) (λ (p : RangeStart). pc < p.start) places below → below ≤ length places → 0 < below
    → (get_or places (below - 1) d).range ≡ m → slice_get ranges m ≡ Some q → in_range q pc ≡ false
    → list_any (λ (r : RangeText). in_range r pc) ranges ≡ false
none-last ranges places pc below m q d kept order point bound some is at not_in =
    let last : RangeStart = get_or places (below - 1) d in
    let placed = order.all.right (below - 1) d (omega arith) in
    let start : q.start ≡ last.start = start-of ranges last m q placed is at in
    let low : last.start ≤ pc = point.0 (below - 1) d (omega arith) (omega arith) in
    let range = all_at IsRange ranges m q kept.each at in
    let wide : 1 * 1 ≤ q.width * q.buckets = mul-le-mul range.some_width range.some_buckets in
    none-of-all ranges pc
    (λ k r here. false_from_ne_true (in_range r pc)
    (λ h.
    let b = range-below ranges places pc below d order point k r here h in
    let span = inside r.start (end_of r) pc h in
    let rising = order.rising b.place (below - 1) d (omega (arith, b.under)) (omega arith) in
    let first = b.start d in
    let over = and_from _ _ (lt-ltb r.start (end_of q) (omega (arith, rising, first, start, wide))) (lt-ltb q.start (end_of r) (omega (arith, start, low, span.upper))) in
    let back = and_from _ _ (lt-ltb q.start (end_of r) (omega (arith, start, low, span.upper))) (lt-ltb r.start (end_of q) (omega (arith, rising, first, start, wide))) in
    let same = two-apart ranges k m r q kept.apart here at over back in
    let one : Some r ≡ Some q = sym here ∙ ap (slice_get ranges) same ∙ at in
    let equal : r ≡ q = cc one in
    let held : in_range q pc ≡ true = subst (λ (x : RangeText). in_range x pc ≡ true) equal h in
    true-not-false (in_range q pc) held not_in))

-- ---- the ranges of the code

pub at-range : (items : List MapRange) (i : ℕ) (x : MapRange) → x ≡ get_or items i x → i < length items → slice_get (map range_text items) i ≡ Some (range_text x)
at-range items i x e lt = slice_get-map range_text items i ∙ ap (option_map range_text) (slice_get-get_or items i x lt ∙ ap (λ (y : MapRange). Some y) (sym e))

mapped-within : {X : Type 0} (f : RangeText → X) (items : List MapRange) (i : ℕ) (v : X) → option_map f (slice_get (map range_text items) i) ≡ Some v → i < length items
mapped-within f items i v e = grind (arith, slice_get_within, length-map)

pub placed-within : (items : List MapRange) (p : RangeStart) → IsPlaced (map range_text items) p → p.range < length items
placed-within items p is = mapped-within (λ (r : RangeText). r.start) items p.range p.start is

-- ---- the ranges in order

pub places-more : (ranges : List RangeText) (n : ℕ) (places : List RangeStart) (new : RangeStart) → ArePlacesOf ranges n places → IsPlaced ranges new → new.range ≡ n → ArePlacesOf ranges (n + 1) (places ++ new ∷ [])
places-more ranges n places new h is at = record { right = All-push (IsPlaced ranges) places new h.right is; each = λ k lt. one k (nat_lt k n) refl lt }
  where
    one : (k : ℕ) (b : Bool) → nat_lt k n ≡ b → k < n + 1 → list_any (λ (p : RangeStart). p.range == k) (places ++ new ∷ []) ≡ true
    one k true t lt =
        list_any-append (λ (p : RangeStart). p.range == k) places (new ∷ []) ∙ ap (λ (b : Bool). b || list_any (λ (p : RangeStart). p.range == k) (new ∷ [])) (h.each k (ltb-true k n t))
    one k false t lt =
        let low = ltb-false k n t in
        let same : new.range ≡ k = omega (arith, at, low, lt) in
        list_any-append (λ (p : RangeStart). p.range == k) places (new ∷ [])
        ∙ ap (λ (b : Bool). list_any (λ (p : RangeStart). p.range == k) places || (b || false)) (eq-eqb new.range k same)
        ∙ or-true (list_any (λ (p : RangeStart). p.range == k) places)

pub places-moved : (ranges : List RangeText) (n : ℕ) (xs ys : List RangeStart) → IsPermutation xs ys → ArePlacesOf ranges n xs → ArePlacesOf ranges n ys
places-moved ranges n xs ys moved h = record {
  right = All-permutation (IsPlaced ranges) xs ys moved h.right;
  each = λ k lt. sym (list_any-IsPermutation (λ (p : RangeStart). p.range == k) xs ys moved) ∙ h.each k lt;
}
