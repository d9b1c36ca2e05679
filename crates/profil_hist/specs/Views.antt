-- What a caller sees of a range.
use Rattle.std.specs.Prelude.{string_bytes}
use Rattle.profil_hist.specs.Ranges.{RangeText}
use Rattle.profil_hist.specs.declared.range.MapRange.{MapRange}

-- a range as a RANGE row gives it: name, first address, width and number of buckets
abbrev pub range_text : MapRange → RangeText
range_text r = record { name = string_bytes r.name; start = r.start; width = r.width; buckets = r.buckets }
