-- The ranges of some rows and of one row more.
use Rattle.profil_hist.proofs.Words.{◌≡◌, ◌∷◌, ◌++◌, List, [], refl, ap, arith, TakesRow, takes-as, RowRefusal, IsLine, Line, range}
use Rattle.profil_hist.proofs.Words.{skipped, cause_in, ranges_in, row_cause, RangeText, GiveRanges, with_line, MapCause}
use Rattle.std.specs.Prelude.{Result}
use Rattle.profil_hist.proofs.Keeping.{kept}

one-more : (lines : List Line) (line : Line) → ranges_in (lines ++ line ∷ []) ≡ with_line (ranges_in lines) line
unfolding ranges_in
one-more [] skipped = refl
one-more [] line = refl
one-more (range r ∷ rest) skipped = ap (λ (rs : List RangeText). r ∷ rs) (one-more rest skipped)
one-more (range r ∷ rest) line = ap (λ (rs : List RangeText). r ∷ rs) (one-more rest line)
one-more (l ∷ rest) line = one-more rest line

pub none-read : GiveRanges [] []
unfolding ranges_in
none-read = (refl, record { few = omega arith; few_buckets = omega arith; each = tt; distinct = tt; apart = tt })

pub row-taken : (above : List Line) (line : Line) (old new : List RangeText) (result : Result Unit (RowRefusal MapCause)) → IsLine line → GiveRanges above old
    → TakesRow (cause_in old line) (new ≡ with_line old line) result → TakesRow (row_cause above line) (GiveRanges (above ++ line ∷ []) new) result
row-taken above line old new result good read takes = grind (arith, takes-as, one-more, kept)
