-- The ranges of some rows and of one row more.
use Rattle.std.specs.Prelude.{◌≡◌, List, [], ◌∷◌, ◌++◌}
use Rattle.profil_hist.specs.Lines.{Line, range}
use Rattle.profil_hist.specs.Maps.{ranges_in}
use Rattle.profil_hist.specs.Ranges.{IsMap, RangeText}

-- the ranges with one row more
abbrev pub with_line : List RangeText → Line → List RangeText
with_line above (range r) = above ++ r ∷ []
with_line above line = above

-- the ranges of these rows, which keep what a map keeps
abbrev pub GiveRanges : List Line → List RangeText → Type 0
GiveRanges lines ranges = (ranges ≡ ranges_in lines) × IsMap ranges
