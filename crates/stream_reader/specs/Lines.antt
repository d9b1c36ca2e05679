-- The lines of a tape: this project's own stream format, docs/FORMATS.md.
use Rattle.std.specs.Prelude.{◌≡◌, ◌==◌, ℕ, Bool, true, false, not, List, [], ◌∷◌, length, if◌then◌else◌, nat_lt}
use Rattle.std.specs.List.{AllByRecursion, slice_split}
use Rattle.papi_base.specs.Numerals.{is_empty}
use Rattle.papi_base.specs.declared.outside.Ending.{Ending}
use Rattle.papi_base.specs.declared.outside.Ending.TheVariants as ending
use Rattle.stream_reader.specs.declared.limits.TheConstants.{LONGEST_LINE}

-- a line, and whether a newline ends it
pub record Line : Type 0 where
  pub bytes : List ℕ
  pub ended : Bool

-- the bytes after the last newline are a line: if the tape ends well any of them, if it fails more than those of the longest line
abbrev pub is_last_line : Ending → List ℕ → Bool
is_last_line ending.End last = not (is_empty last)
is_last_line ending.Fault last = nat_lt LONGEST_LINE (length last)

-- the pieces between newlines as lines: all but the last are ended by a newline
unfoldable pub lines_of : Ending → List (List ℕ) → List Line
lines_of e [] = []
lines_of e (last ∷ []) = if is_last_line e last then record { bytes = last; ended = false } ∷ [] else []
lines_of e (first ∷ second ∷ rest) = record { bytes = first; ended = true } ∷ lines_of e (second ∷ rest)

-- a tape is cut at each newline
unfoldable pub tape_lines : Ending → List ℕ → List Line
tape_lines e bytes = lines_of e (slice_split (λ b. b == 10) bytes)

-- no byte of the text is a newline
pub record IsOneLine (text : List ℕ) : Type 0 where
  pub each : AllByRecursion (λ b. (b == 10) ≡ false) text
