-- The counts of ranges in memory.
use Rattle.profil_hist.proofs.Words.{◌≡◌, ◌∙◌, ◌<◌, ◌≤◌, ℕ, List, Some, map, length, get_or, sym, ap, arith, set, ltb-true}
use Rattle.profil_hist.proofs.Words.{get_or-map, length-map, map-set, get_or-le-sum_by, slice_get-get_or, slice_get-map, slice_get_within}
use Rattle.profil_hist.proofs.Words.{slice_get, sum_by, IsThere, RowText, counts_text, with_hit, with_note, RangeCounts, Place}
use Rattle.profil_hist.proofs.Noted.{noted-rows}

pub record There (items : List RangeCounts) (p : Place) (x : RangeCounts) : Type 0 where
  pub inside : p.range < length items
  pub at : slice_get (map counts_text items) p.range ≡ Some (counts_text x)
  pub below : p.bucket < length x.buckets.items

pub there : (items : List RangeCounts) (p : Place) (x : RangeCounts) → x ≡ get_or items p.range x → IsThere p (map counts_text items) → There items p x
there items p x e h = grind (arith, ltb-true, slice_get_within, length-map, slice_get-map, slice_get-get_or)

-- a row's number is no greater than the sum over all rows
pub row-le-sum : (f : RowText → ℕ) (items : List RangeCounts) (i : ℕ) (x : RangeCounts) → x ≡ get_or items i x → i < length items → f (counts_text x) ≤ sum_by f (map counts_text items)
row-le-sum f items i x e lt =
    let most = get_or-le-sum_by f (map counts_text items) i (counts_text x) (omega (arith, lt, length-map items counts_text)) in
    let same : f (get_or (map counts_text items) i (counts_text x)) ≡ f (counts_text x) = ap f (get_or-map counts_text items i x (counts_text x) lt ∙ sym (ap counts_text e)) in
    omega (arith, most, same)

pub noted-items : (items : List RangeCounts) (p : Place) (x new : RangeCounts) → There items p x → counts_text new ≡ with_hit p.bucket (counts_text x)
    → map counts_text (set items p.range new) ≡ with_note p (map counts_text items)
noted-items items p x new t e = grind (arith, map-set, set, noted-rows)
