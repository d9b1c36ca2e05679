-- The streams of the soak as text: docs/FORMATS.md.
use Rattle.std.specs.Prelude.{◌/◌, ◌%◌, ℕ, Bool, true, false, List, [], ◌∷◌, ◌++◌, codes, decimal}
use Rattle.std.specs.Fmt.{digit_glyph}
use Rattle.std.specs.List.{flat_map}
use Rattle.soak_input.specs.Occurrences.{occurrences_of}
use Rattle.soak_input.specs.declared.occurrence.Occurrence.{Occurrence}

-- the bytes of a file
abbrev pub Text : Type 0
Text = List ℕ

-- the two last hexadecimal digits of a number, in lower case
abbrev pub two_digits : ℕ → Text
two_digits n = digit_glyph false (n / 16 % 16) ∷ digit_glyph false (n % 16) ∷ []

-- the six last hexadecimal digits of a number, in lower case
abbrev pub six_digits : ℕ → Text
six_digits n = two_digits (n / 65536) ++ (two_digits (n / 256) ++ two_digits n)

-- the mode with a space on each side: `k` for kernel mode, `u` for user mode
abbrev pub mode_text : Bool → Text
mode_text true = codes " k "
mode_text false = codes " u "

-- the component, the select code, the umask, the mode, the amount and the program counter
unfoldable pub line_text : Occurrence → Text
line_text o =
    codes "0 " ++ (two_digits o.select ++ (codes " " ++ (two_digits o.umask ++ (mode_text o.is_kernel
    ++ (decimal o.amount ++ (codes " " ++ (six_digits o.program_counter ++ codes "\n")))))))

-- the bytes of a stream: a line for each occurrence, in their order
abbrev pub lines_text : List Occurrence → Text
lines_text occurrences = flat_map line_text occurrences

-- the stream of a thread of a soak of n rounds
unfoldable pub stream_text : ℕ → ℕ → Text
stream_text rounds thread = lines_text (occurrences_of rounds thread)
