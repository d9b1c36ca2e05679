-- What a reader keeps inside, and what its turns do.
use Rattle.std.specs.Prelude.{◌≡◌, ◌≤◌, ◌<◌, ◌+◌, ◌-◌, ◌++◌, ℕ, Bool, true, false, List, [], ◌∷◌, length, take, drop, Option, Some, None, IfSome, IfNone, Result, MatchResult, is_some}
use Rattle.std.specs.Option.{option_map}
use Rattle.papi_base.specs.Numerals.{flag_bit}
use Rattle.papi_base.specs.Outside.{Rose, Tape}
use Rattle.papi_base.specs.declared.outside.Failed as failed
use Rattle.papi_base.specs.declared.outside.Ending.{Ending}
use Rattle.papi_base.specs.declared.outside.Ending.TheVariants as ending
use Rattle.stream_reader.specs.declared.limits.TheConstants.{LARGEST_STREAM, LONGEST_LINE, READER_BYTES}
use Rattle.stream_reader.specs.declared.line.LineStart.{LineStart}
use Rattle.stream_reader.specs.declared.line.Judgement.{Judgement}
use Rattle.stream_reader.specs.declared.line.Judgement.TheVariants as judgement
use Rattle.stream_reader.specs.declared.next.Next.{Next}
use Rattle.stream_reader.specs.declared.next.Next.TheVariants as next
use Rattle.stream_reader.specs.Lines.{IsOneLine, Line}
use Rattle.stream_reader.specs.Judged.{judged}
use Rattle.stream_reader.specs.Occurs.{IsStart, after}
use Rattle.stream_reader.specs.Reader.{Gave, IsWithinLimits, ReaderView, Takes, before_rest, comes, faults_of, is_last, tape_of}

-- What is kept of the place where a line begins: the stream was not too large so far.
pub record IsKept (start : LineStart) : Type 0 where
  pub starts : IsStart start
  pub passed : start.passed ≤ LARGEST_STREAM + 1
  pub numbered : start.number ≤ start.passed + 2

-- The bytes held lie in the array and end after the place of a line.
pub record IsReader (from to : ℕ) (bytes : List ℕ) (start : LineStart) : Type 0 where
  pub room : length bytes ≡ READER_BYTES
  pub in_order : from ≤ to
  pub within : to ≤ READER_BYTES
  pub after_line : LONGEST_LINE ≤ to
  pub kept : IsKept start

-- Some bytes were taken from the source, and all that was to come is still to come.
pub record Passes (old new : ReaderView) : Type 0 where
  pub taken : List ℕ
  pub tape : tape_of old ≡ option_map (before_rest taken) (tape_of new)
  pub says : (e : Ending) (more : List ℕ) → comes old e (taken ++ more) ≡ comes new e more

-- where a text has its first newline
abbrev pub FindsNewline : List ℕ → Option ℕ → Type 0
FindsNewline text None = IsOneLine text
FindsNewline text (Some n) = (n < length text) × IsOneLine (take n text) × (text ≡ take n text ++ 10 ∷ drop (n + 1) text)

-- ---- a line, or a piece

-- the front of the bytes held as a line
abbrev pub line_at : ReaderView → ℕ → Bool → Line
line_at v size ended = record { bytes = take size v.held; ended = ended }

-- what a line of this number gives to a caller: its cause or its occurrence, and nothing if it is skipped or gives the version
abbrev pub answer_of : ℕ → Judgement → Option Next
answer_of number (judgement.Bad c) = Some (next.Bad number c)
answer_of number (judgement.Occurs o) = Some (next.Occ o)
answer_of number judgement.Skipped = None
answer_of number judgement.Version = None

-- the reader after a line that was judged so
abbrev pub line_taken : ReaderView → ℕ → Bool → Judgement → ReaderView
line_taken v size ended (judgement.Bad c) = record v { over = true }
line_taken v size ended j = record v { start = after v.start (line_at v size ended) j; held = drop (size + flag_bit ended) v.held }

-- what is still to be read before the stream is too large
abbrev pub left_of : ReaderView → ℕ
left_of v = ((LARGEST_STREAM + 2) - v.start.passed) + ((LARGEST_STREAM + 2 + READER_BYTES) - (v.start.passed + length v.held))

-- A line was taken from the front of the bytes held. If it gives nothing, the reader is nearer to the largest stream.
pub record TakesLine (old : ReaderView) (size : ℕ) (ended : Bool) (given : Option Next) (new : ReaderView) : Type 0 where
  pub answer : given ≡ answer_of old.start.number (judged old.start (line_at old size ended))
  pub after : new ≡ line_taken old size ended (judged old.start (line_at old size ended))
  pub counts : Gave old.start given new.start
  pub nearer : IfNone given (left_of new < left_of old)
  pub within : IsWithinLimits new

-- A line or a piece was taken: this is the answer, or all that was to come is still to come.
pub record Turns (old : ReaderView) (answer : Option Next) (new : ReaderView) : Type 0 where
  pub takes : IfSome answer (λ next. Takes old next new)
  pub passes : IfNone answer (Passes old new)
  pub counts : Gave old.start answer new.start
  pub over : IfNone answer (new.over ≡ false)
  pub last : IfSome answer (λ next. is_last next ≡ true → new.over ≡ true)
  pub asked : new.asked ≡ old.asked
  pub kept : is_some new.source ≡ is_some old.source
  pub within : IsWithinLimits new
  pub faults : faults_of old ≤ faults_of new
  pub failed : answer ≡ Some next.ReadFault → Rose (faults_of old) (faults_of new)
  pub nearer : IfNone answer (left_of new < left_of old)

-- The tape, if it is told, has ended so.
abbrev pub HasEnded : Ending → Option Tape → Type 0
HasEnded e tape = IfSome tape (λ (t : Tape). (t.bytes ≡ []) × (t.ending ≡ e))

-- A piece was asked for: the bytes taken come after those held.
pub record Refills (old : ReaderView) (answer : Result ℕ failed.Failed) (new : ReaderView) : Type 0 where
  pub piece : List ℕ
  pub size : MatchResult answer (λ n. length piece ≡ n) (λ _. piece ≡ [])
  pub held : new.held ≡ old.held ++ piece
  pub start : new.start ≡ old.start
  pub over : new.over ≡ old.over
  pub asked : new.asked ≡ old.asked
  pub tape : tape_of old ≡ option_map (before_rest piece) (tape_of new)
  pub ends : MatchResult answer (λ n. n ≡ 0 → HasEnded ending.End (tape_of new)) (λ _. HasEnded ending.Fault (tape_of new))
