-- The numbers that the words of a tool give, as `clap` reads them: `ArgMatches::get_one` of an unsigned type.
use Rattle.std.specs.Prelude.{◌^◌, ◌&&◌, ℕ, List, Option, Some, None, if◌then◌else◌, nat_le, nat_lt, option_and_then}
use Rattle.std.specs.Str.Parse.{digits_value, without_leading_plus}
use Rattle.clap.specs.ValueTests.{is_numeral}
use Rattle.clap.specs.Words.{Row, Text, one_of}

-- what a type of n bits reads: one decimal digit or more, before which a plus may stand
abbrev pub unsigned_of : ℕ → Text → Option ℕ
unsigned_of bits text =
    let digits = without_leading_plus text in
    if is_numeral digits && nat_lt (digits_value 10 digits) (2 ^ bits) then Some (digits_value 10 digits) else None

-- the number of an argument, in 32 bits
abbrev pub number_of : Text → List Row → Option ℕ
number_of id rows = option_and_then (unsigned_of 32) (one_of id rows)

-- a number from 1 to the most
abbrev pub count_of : ℕ → ℕ → Option ℕ
count_of most count = if nat_le 1 count && nat_le count most then Some count else None

-- the number of an argument, from 1 to the most
abbrev pub count_in : ℕ → Text → List Row → Option ℕ
count_in most id rows = option_and_then (count_of most) (number_of id rows)
