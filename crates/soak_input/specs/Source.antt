-- What a source of the soak gives.
use Rattle.std.specs.Prelude.{ℕ, ◌++◌, drop}
use Rattle.papi_base.specs.Outside.{Tape}
use Rattle.papi_base.specs.declared.outside.Ending.TheVariants.{End}
use Rattle.soak_input.specs.Occurrences.{occurrences_after}
use Rattle.soak_input.specs.Streams.{Text, lines_text}

-- what is left of a line, and the lines of n occurrences after a number
abbrev pub left_text : Text → ℕ → ℕ → ℕ → Text
left_text line given left number = drop given line ++ lines_text (occurrences_after left number)

-- a tape of these bytes that ends well
abbrev pub well_ended : Text → Tape
well_ended bytes = record { bytes = bytes; ending = End }
