-- The occurrences of a tape, and how it ends: this project's own stream format, docs/FORMATS.md.
use Rattle.std.specs.Prelude.{◌≡◌, ◌≤◌, ◌<◌, IfSome, ◌+◌, ℕ, Bool, true, false, List, [], ◌∷◌, length, Option, Some, None}
use Rattle.papi_base.specs.Numerals.{flag_bit}
use Rattle.papi_base.specs.Streams.{Mark, Dry, Bad, Fault, Coming}
use Rattle.papi_base.specs.declared.limits.TheConstants.{LAST_STAMP}
use Rattle.papi_base.specs.declared.outside.Ending.{Ending}
use Rattle.papi_base.specs.declared.outside.Ending.TheVariants as ending
use Rattle.stream_reader.specs.declared.line.LineStart.{LineStart}
use Rattle.stream_reader.specs.declared.line.Judgement.{Judgement}
use Rattle.stream_reader.specs.declared.line.Judgement.TheVariants as judgement
use Rattle.stream_reader.specs.Lines.{Line, tape_lines}
use Rattle.stream_reader.specs.Judged.{judged}

-- a line after which the stream gives nothing more
abbrev pub is_bad : Judgement → Bool
is_bad (judgement.Bad c) = true
is_bad judgement.Skipped = false
is_bad judgement.Version = false
is_bad (judgement.Occurs o) = false

-- what a run meets after the last occurrence, if no line is bad: the end, or the fault of the source
abbrev pub end_mark : Ending → Mark
end_mark ending.End = Dry
end_mark ending.Fault = Fault

-- what is known after a line, whatever it is
abbrev pub line_passed : LineStart → Line → LineStart
line_passed start line = record start { number = start.number + 1; passed = start.passed + length line.bytes + flag_bit line.ended }

-- where the next line begins: a version line has the lines after it read with stamps, and an occurrence leaves its stamp as the last one
abbrev pub after : LineStart → Line → Judgement → LineStart
after start line (judgement.Bad c) = line_passed start line
after start line judgement.Skipped = line_passed start line
after start line judgement.Version = record (line_passed start line) { stamped = true }
after start line (judgement.Occurs o) = record (line_passed start line) { given = start.given + 1; last = Some o.stamp }

-- a line's judgement before what the lines below it say
abbrev pub joined : ℕ → Judgement → Coming → Coming
joined number (judgement.Bad c) more = record { rest = []; mark = Bad number c }
joined number judgement.Skipped more = more
joined number judgement.Version more = more
joined number (judgement.Occurs o) more = record more { rest = o ∷ more.rest }

-- the occurrences of the lines before the first bad one, and the mark
unfoldable pub occurs_from : Ending → LineStart → List Line → Coming
occurs_from e start [] = record { rest = []; mark = end_mark e }
occurs_from e start (line ∷ rest) = joined start.number (judged start line) (occurs_from e (after start line (judged start line)) rest)

-- where a tape begins
abbrev pub first_start : LineStart
first_start = record { number = 1; passed = 0; stamped = false; given = 0; last = None }

-- what the rest of a tape says
abbrev pub occurs_on : Ending → LineStart → List ℕ → Coming
occurs_on e start bytes = occurs_from e start (tape_lines e bytes)

-- what a tape says
unfoldable pub occurs_of : Ending → List ℕ → Coming
occurs_of e bytes = occurs_on e first_start bytes

-- ---- what every stream keeps

-- the least stamp that an occurrence can have after the last one
abbrev pub least_stamp : Option ℕ → ℕ
least_stamp None = 0
least_stamp (Some last) = last + 1

-- what is so where a line begins: stamps rise, so that there are no more occurrences than stamps, and those of version 1 are numbered
pub record IsStart (start : LineStart) : Type 0 where
  pub counted : start.given ≤ least_stamp start.last
  pub in_time : least_stamp start.last ≤ LAST_STAMP + 1
  pub below : start.stamped ≡ false → IfSome start.last (λ l. l < start.given)
