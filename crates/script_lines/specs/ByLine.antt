-- What a text that is read line by line gives: what its lines say, or its first faulty line.
use Rattle.std.specs.Prelude.{◌≡◌, ◌+◌, ℕ, List, [], ◌∷◌, ◌++◌, Result, Ok, Err, if◌then◌else◌}
use Rattle.table_rows.specs.Texts.{Text}
use Rattle.script_lines.specs.declared.fault.LineFault.{LineFault}
use Rattle.script_lines.specs.declared.fault.LineFault.TheVariants.{Line, Memory}
use Rattle.script_lines.specs.Lines.{is_skipped}

-- the line that is refused, with its cause
pub record Refused (C : Type 0) : Type 0 where
  pub line : ℕ
  pub cause : C

-- lines before those that are read further on
abbrev pub put_before : {L C : Type 0} → List L → Result (List L) (Refused C) → Result (List L) (Refused C)
put_before above (Ok below) = Ok (above ++ below)
put_before above (Err refused) = Err refused

-- a line before those that are read after it, or the line that is refused
abbrev pub onto : {L C : Type 0} → ℕ → Result L C → (L → Result (List L) (Refused C)) → Result (List L) (Refused C)
onto number (Ok line) below = put_before (line ∷ []) (below line)
onto number (Err cause) below = Err (record { line = number; cause = cause })

-- what a line of a number says in view of those above it, how they stand after it, and what no more lines give
pub record Format (S L C : Type 0) : Type 0 where
  pub line_of : ℕ → S → Text → Result L C
  pub after : S → L → S
  pub at_end : ℕ → S → Result (List L) (Refused C)

-- what some lines say, the first of this number, in view of those above them
unfoldable pub lines_from : {S L C : Type 0} → Format S L C → ℕ → S → List Text → Result (List L) (Refused C)
lines_from format number above [] = format.at_end number above
lines_from format number above (line ∷ rest) =
    if is_skipped line then lines_from format (number + 1) above rest
    else onto number (format.line_of number above line) (λ read. lines_from format (number + 1) (format.after above read) rest)

-- The answer to a text that gives this. Memory may run out at any text.
abbrev pub ReadsLines : {L C : Type 0} → Result (List L) (LineFault C) → Result (List L) (Refused C) → Type 0
ReadsLines (Ok lines) gives = gives ≡ Ok lines
ReadsLines (Err (Line line cause)) gives = gives ≡ Err (record { line = line; cause = cause })
ReadsLines (Err Memory) gives = Unit {0}
