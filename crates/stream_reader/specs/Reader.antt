-- What contracts see of a reader, and what it gives next: this project's own stream format, docs/FORMATS.md.
use Rattle.std.specs.Prelude.{◌-◌, ◌≡◌, ◌≤◌, ◌+◌, ◌++◌, ◌⊎◌, ℕ, Bool, true, false, List, [], ◌∷◌, length, Option, Some, None, IfSome, if◌then◌else◌}
use Rattle.std.specs.Option.{option_map, option_map_or, option_and_then}
use Rattle.papi_base.specs.Streams.{Mark, Dry, Bad, Fault, Coming}
use Rattle.papi_base.specs.Outside.{Tape}
use Rattle.papi_base.specs.declared.outside.Ending.{Ending}
use Rattle.papi_base.specs.declared.outside.Ending.TheVariants as ending
use Rattle.papi_base.specs.declared.occurrence.Occ.{Occ}
use Rattle.papi_base.specs.declared.limits.TheConstants.{LARGEST_AMOUNT, LAST_STAMP, MOST_COMPONENTS, MOST_OCCURRENCES}
use Rattle.stream_reader.specs.declared.limits.TheConstants.{READER_BYTES}
use Rattle.stream_reader.specs.declared.line.LineStart.{LineStart}
use Rattle.stream_reader.specs.declared.line.Judgement.{Judgement}
use Rattle.stream_reader.specs.declared.line.Judgement.TheVariants as judgement
use Rattle.stream_reader.specs.declared.next.Next.{Next}
use Rattle.stream_reader.specs.declared.next.Next.TheVariants as next
use Rattle.stream_reader.specs.Lines.{Line, tape_lines}
use Rattle.stream_reader.specs.Judged.{is_above, judged}
use Rattle.stream_reader.specs.Occurs.{after, first_start, occurs_on}

-- what a source shows: its tape, if it tells it, and how often it has failed
pub record SourceView : Type 0 where
  pub tape : Option Tape
  pub faults : ℕ

-- What a reader is: where its next line begins, the bytes that it has taken from its source and neither given nor
-- skipped, whether it answers `End` from now on, whether `next` was ever called, and its source, unless it was made
-- without one.
pub record ReaderView : Type 0 where
  pub start : LineStart
  pub held : List ℕ
  pub over : Bool
  pub asked : Bool
  pub source : Option SourceView

-- what the source still gives, if there is one and it tells
abbrev pub tape_of : ReaderView → Option Tape
tape_of v = option_and_then (λ (s : SourceView). s.tape) v.source

-- how often its source has failed so far, 0 if it has no source
abbrev pub faults_of : ReaderView → ℕ
faults_of v = option_map_or (λ (s : SourceView). s.faults) v.source 0

-- a reader that was not asked yet
abbrev pub new_view : Option SourceView → Bool → ReaderView
new_view source over = record { start = first_start; held = []; over = over; asked = false; source = source }

-- no occurrence, and the end: what is to come after the last answer
abbrev pub nothing : Coming
nothing = record { rest = []; mark = Dry }

-- what is to come, if the source gives these bytes more and ends so
unfoldable pub comes : ReaderView → Ending → List ℕ → Coming
comes v e more = if v.over then nothing else occurs_on e v.start (v.held ++ more)

-- what is to come, if that is told
unfoldable pub coming : ReaderView → Option Coming
coming v = if v.over then Some nothing else option_map (λ (t : Tape). comes v t.ending t.bytes) (tape_of v)

-- ---- told: the next occurrence, or the mark

-- how a reader answers if a stream has no further occurrence
abbrev pub at_mark : Mark → Next
at_mark Dry = next.End
at_mark (Bad n c) = next.Bad n c
at_mark Fault = next.ReadFault

-- the answer of `next`: the first of the occurrences that are to come, or else the mark
abbrev pub gives_of : List Occ → Mark → Next
gives_of [] mark = at_mark mark
gives_of (o ∷ rest) mark = next.Occ o

-- what is to come then: after the mark nothing
abbrev pub coming_after : List Occ → Mark → Coming
coming_after [] mark = nothing
coming_after (o ∷ rest) mark = record { rest = rest; mark = mark }

-- A reader that tells gives the next occurrence and takes it off, or the mark.
abbrev pub NextGives : Option Coming → Next → Option Coming → Type 0
NextGives None answer new = Unit {0}
NextGives (Some c) answer new = (answer ≡ gives_of c.rest c.mark) × (new ≡ Some (coming_after c.rest c.mark))

-- ---- told or not

-- what was to come, if this was answered and that comes later
abbrev pub follows : Next → Coming → Coming
follows (next.Occ o) later = record { rest = o ∷ later.rest; mark = later.mark }
follows next.End later = later
follows (next.Bad n c) later = record { rest = []; mark = Bad n c }
follows next.ReadFault later = record { rest = []; mark = Fault }

-- The answer is what the bytes held and these say first, whatever may come after them.
pub record GoesOn (old : ReaderView) (taken : List ℕ) (answer : Next) (new : ReaderView) : Type 0 where
  pub says : (e : Ending) (more : List ℕ) → comes old e (taken ++ more) ≡ follows answer (comes new e more)

-- The answer is what the bytes held and these say first, and after them the source ended so, and with it the stream.
pub record Closes (old : ReaderView) (taken : List ℕ) (answer : Next) (new : ReaderView) : Type 0 where
  pub ending : Ending
  pub says : comes old ending taken ≡ follows answer nothing
  pub over : new.over ≡ true
  pub told : IfSome (tape_of new) (λ (t : Tape). (t.bytes ≡ []) × (t.ending ≡ ending))

-- these bytes and then the rest of the tape
abbrev pub before_rest : List ℕ → Tape → Tape
before_rest taken t = record { bytes = taken ++ t.bytes; ending = t.ending }

-- Some bytes were taken from the source, and the answer is what the bytes held and these say.
pub record Takes (old : ReaderView) (answer : Next) (new : ReaderView) : Type 0 where
  pub taken : List ℕ
  pub tape : tape_of old ≡ option_map (before_rest taken) (tape_of new)
  pub judged : GoesOn old taken answer new ⊎ Closes old taken answer new

-- a line for which `next` gives nothing, and goes on to the next one: an empty line, a comment, or the version
abbrev pub is_passed_over : Judgement → Bool
is_passed_over (judgement.Bad c) = false
is_passed_over (judgement.Occurs o) = false
is_passed_over judgement.Skipped = true
is_passed_over judgement.Version = true

-- the first of these lines that is not passed over is whole
unfoldable pub answers_from : LineStart → List Line → Bool
answers_from start [] = false
answers_from start (line ∷ rest) =
    if line.ended then if is_passed_over (judged start line) then answers_from (after start line (judged start line)) rest else true else false

-- the reader holds a whole line that is not skipped, or gives nothing any more
unfoldable pub has_answer : ReaderView → Bool
has_answer v = if v.over then true else answers_from v.start (tape_lines ending.End v.held)

-- an occurrence that was given between these two places of the stream
pub record GaveOne (start : LineStart) (o : Occ) (later : LineStart) : Type 0 where
  pub above : is_above start.last o.stamp ≡ true
  pub stamp : o.stamp ≤ LAST_STAMP
  pub least : 1 ≤ o.amount
  pub greatest : o.amount ≤ LARGEST_AMOUNT
  pub comp : o.comp ≤ MOST_COMPONENTS - 1
  pub last : later.last ≡ Some o.stamp
  pub given : later.given ≡ start.given + 1

-- nothing was given between these two places
pub record GaveNothing (start later : LineStart) : Type 0 where
  pub last : later.last ≡ start.last
  pub given : later.given ≡ start.given

-- stamps rise, amounts are from 1 to 255, and each occurrence counts
abbrev pub Gave : LineStart → Option Next → LineStart → Type 0
Gave start (Some (next.Occ o)) later = GaveOne start o later
Gave start (Some next.End) later = GaveNothing start later
Gave start (Some (next.Bad n c)) later = GaveNothing start later
Gave start (Some next.ReadFault) later = GaveNothing start later
Gave start None later = GaveNothing start later

-- how many occurrences are given at most, and how many bytes are taken and neither given nor skipped
pub record IsWithinLimits (v : ReaderView) : Type 0 where
  pub few : v.start.given ≤ MOST_OCCURRENCES
  pub room : length v.held ≤ READER_BYTES

-- the answers after which a reader answers `End` alone
abbrev pub is_last : Next → Bool
is_last (next.Occ o) = false
is_last next.End = true
is_last (next.Bad n c) = true
is_last next.ReadFault = true
