-- The arguments of a call of a script: this project's own format, docs/FORMATS.md.
use Rattle.std.specs.Prelude.{◌&&◌, ◌==◌, ℕ, List, [], ◌∷◌, Option, Some, None, Result, Ok, Err, drop, if◌then◌else◌, slice_index}
use Rattle.table_rows.specs.Texts.{Text, decimal_in, hex_in, is_printable}
use Rattle.script_lines.specs.declared.fault.ScriptCause.{ScriptCause}
use Rattle.script_lines.specs.declared.fault.ScriptCause.TheVariants.{BadArguments, BadNumber}
use Rattle.script_lines.specs.Answers.{and_then, made_of}

-- the number if there is one, otherwise the fault of this cause
abbrev pub number_or : ScriptCause → Option ℕ → Result ℕ ScriptCause
number_or cause (Some number) = Ok number
number_or cause None = Err cause

-- a number of 32 bits
abbrev pub number_in : Text → Result ℕ ScriptCause
number_in word = number_or BadNumber (decimal_in 0 4294967295 word)

-- a number of 64 bits
abbrev pub threshold_in : Text → Result ℕ ScriptCause
threshold_in word = number_or BadNumber (decimal_in 0 18446744073709551615 word)

-- a code of 32 bits: `0x`, with the x in lower case, and 1 to 8 hexadecimal digits
abbrev pub code_in : Text → Result ℕ ScriptCause
code_in word = number_or BadNumber (if (slice_index word 0 == 48) && (slice_index word 1 == 120) then hex_in 1 8 (drop 2 word) else None)

-- no argument
abbrev pub nothing : List Text → Result (Unit {0}) ScriptCause
nothing [] = Ok tt
nothing (word ∷ words) = Err BadArguments

-- one number
abbrev pub one_number : List Text → Result ℕ ScriptCause
one_number (word ∷ []) = number_in word
one_number _ = Err BadArguments

-- two numbers
abbrev pub two_numbers : List Text → Result (ℕ × ℕ) ScriptCause
two_numbers (first ∷ second ∷ []) = and_then (number_in first) (λ one. made_of (λ two. (one, two)) (number_in second))
two_numbers _ = Err BadArguments

-- one code
abbrev pub one_code : List Text → Result ℕ ScriptCause
one_code (word ∷ []) = code_in word
one_code _ = Err BadArguments

-- one event, of printable bytes alone
abbrev pub one_event : List Text → Result Text ScriptCause
one_event (event ∷ []) = if is_printable event then Ok event else Err BadArguments
one_event _ = Err BadArguments

-- the number of a set, and an event, which has no bytes but printable ones; a word has no blanks
abbrev pub set_and_event : List Text → Result (ℕ × Text) ScriptCause
set_and_event (set ∷ event ∷ []) = if is_printable event then made_of (λ number. (number, event)) (number_in set) else Err BadArguments
set_and_event _ = Err BadArguments

-- the number of a set, an event, and a threshold
abbrev pub set_event_and_threshold : List Text → Result (ℕ × Text × ℕ) ScriptCause
set_event_and_threshold (set ∷ event ∷ threshold ∷ []) =
    if is_printable event then and_then (number_in set) (λ number. made_of (λ most. (number, event, most)) (threshold_in threshold)) else Err BadArguments
set_event_and_threshold _ = Err BadArguments
