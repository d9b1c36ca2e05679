use Rattle.std.proofs.Common.{arith}
-- What a row of a map keeps, by itself.
use Rattle.profil_hist.proofs.Words.{List, leb-true, and_parts, cond_both, Text}
use Rattle.profil_hist.proofs.Words.{decimal_in-range, option_both, IsLine, line_of, range_line}

range_line-kept : (name start width buckets : Text) → IsLine (range_line name start width buckets)
range_line-kept name start width buckets = grind (arith, option_both, cond_both, decimal_in-range, and_parts, leb-true)

pub line_of-kept : (fields : List Text) → IsLine (line_of fields)
unfolding line_of
line_of-kept fields = grind (arith, cond_both, range_line-kept)
