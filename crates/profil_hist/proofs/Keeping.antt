-- A row with no cause keeps what a map keeps.
use Rattle.profil_hist.proofs.Words.{◌≡◌, ◌+◌, ◌∷◌, ◌++◌, List, [], None, length, arith, length-append, leb-false, or_parts, sum_by-append, ◌||◌}
use Rattle.profil_hist.proofs.Words.{nat_le, nat_lt, list_any, bytes_eq, passed_over, all-append, no_two-more, IsLine, Line, range, cause_in}
use Rattle.profil_hist.proofs.Words.{range_cause, IsMap, IsRange, RangeText, buckets_in_all, overlaps, with_line, MOST_BUCKETS, MOST_RANGES}
use borrow.Author.Tests.{ltb-false}
use Rattle.profil_hist.specs.declared.fault.MapCause.TheVariants as cause

range-kept : (above : List RangeText) (r : RangeText) → IsRange r → range_cause above r ≡ None → IsMap above → IsMap (above ++ r ∷ [])
range-kept above r is e h =
    let limit = passed_over (nat_le MOST_RANGES (length above) || nat_lt MOST_BUCKETS (buckets_in_all above + r.buckets)) cause.OverLimit _ e in
    let name = passed_over (list_any (λ (o : RangeText). bytes_eq o.name r.name) above) cause.RepeatedName _ limit.1 in
    let apart = passed_over (list_any (λ (o : RangeText). overlaps o r) above) cause.Overlap None name.1 in
    let both = or_parts (nat_le MOST_RANGES (length above)) (nat_lt MOST_BUCKETS (buckets_in_all above + r.buckets)) limit.0 in
    let few = leb-false MOST_RANGES (length above) both.0 in
    let buckets = ltb-false MOST_BUCKETS (buckets_in_all above + r.buckets) both.1 in
    record {
      few = omega (arith, few, length-append above (r ∷ []));
      few_buckets = omega (arith, buckets, sum_by-append (λ (o : RangeText). o.buckets) above (r ∷ []));
      each = all-append IsRange above (r ∷ []) h.each (is, tt);
      distinct = no_two-more (λ (a b : RangeText). bytes_eq a.name b.name) above r h.distinct name.0;
      apart = no_two-more overlaps above r h.apart apart.0;
    }

pub kept : (above : List RangeText) (line : Line) → IsLine line → cause_in above line ≡ None → IsMap above → IsMap (with_line above line)
kept above (range r) l e h = range-kept above r l e h
kept above line l e h = h
