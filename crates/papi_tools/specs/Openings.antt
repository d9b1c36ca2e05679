-- What the openings of a call find, one after the other, and what its steps make of it: this project's own order of work, docs/FORMATS.md.
use Rattle.std.specs.Prelude.{◌≡◌, ℕ, List, Option, Some, None, Result, Ok, Err, IfSome, if◌then◌else◌, [], ◌∷◌, length, nat_lt}
use Rattle.papi_base.specs.Outside as Outside
use Rattle.papi_base.specs.Outside.{Tape, Held, fails_next, tape_of}
use Rattle.papi_tools.specs.declared.refusal.Refusal.{Refusal}
use Rattle.papi_tools.specs.declared.refusal.Refusal.TheVariants.{CannotRead, NoSuchFile, TooLarge}
use Rattle.papi_tools.specs.declared.refusal.Stop.{Stop}
use Rattle.papi_tools.specs.declared.refusal.Stop.TheVariants.{Memory, Refused}
use Rattle.overflow_dispatch.specs.declared.handler.Note.{Note}
use Rattle.papi_tools.specs.declared.said.Said.{Said}
use Rattle.papi_base.specs.declared.outside.Ending.{Ending}
use Rattle.papi_base.specs.declared.outside.Ending.TheVariants.{End, Fault}

-- what an opening finds: no file, a failure, or a file with this tape
pub data Found : Type 0 where
  Absent : Found
  Failing : Found
  Open : Tape → Found

-- What the coming openings find: what these files hold by name; or this first, and that then. So a file can differ from one opening to the next.
pub data Openings : Type 0 where
  ByName : Held → Openings
  First : Found → Openings → Openings

-- the openings after the next one
abbrev pub opened : Openings → Openings
opened (ByName held) = ByName (Outside.opened held)
opened (First found later) = later

-- the tape that is held under a name, or the refusal of a name that has none
abbrev pub found : List ℕ → Option Tape → Result Tape Refusal
found name None = Err (NoSuchFile name)
found name (Some tape) = Ok tape

-- what the next opening finds, which is that of this name
abbrev pub tape_under : Openings → List ℕ → Result Tape Refusal
tape_under (ByName held) name = if fails_next held then Err (CannotRead name) else found name (tape_of held.tapes name)
tape_under (First Absent later) name = Err (NoSuchFile name)
tape_under (First Failing later) name = Err (CannotRead name)
tape_under (First (Open tape) later) name = Ok tape

-- These can be the coming openings of files: by what the files hold, if they tell it.
abbrev pub CanOpen : Option Held → Openings → Type 0
CanOpen held openings = IfSome held (λ h. openings ≡ ByName h)

-- a tape that can be that of a source: the one that it tells, if it tells
abbrev pub CanGive : Option Tape → Tape → Type 0
CanGive told tape = IfSome told (λ t. t ≡ tape)

-- There are openings that can be those of the files, for which it is so.
abbrev pub ForSome : Option Held → (Openings → Type 0) → Type 0
ForSome held Is = (openings : Openings) × CanOpen held openings × Is openings

-- A step that ends the call so: some openings give the refusal.
abbrev pub Stops : {B : Type 0} → Stop → (Openings → Result B Refusal) → Option Held → Type 0
Stops (Refused refusal) gives before = ForSome before (λ openings. gives openings ≡ Err refusal)
Stops Memory gives before = Unit {0}

-- The last step of those that open files, with this answer: whatever its value can stand for is what some openings give.
abbrev pub Ends : {A B : Type 0} → (A → B → Type 0) → Result A Stop → (Openings → Result B Refusal) → Option Held → Type 0
Ends {A} {B} CanBe (Ok value) gives before = (expected : B) → CanBe value expected → ForSome before (λ openings. gives openings ≡ Ok expected)
Ends {A} {B} CanBe (Err s) gives before = Stops s gives before

-- A step with others after it: the same, whatever the openings after it find.
abbrev pub Leads : {A B : Type 0} → (A → B → Type 0) → Result A Stop → (Openings → Result B Refusal) → (Openings → Openings) → Option Held → Option Held → Type 0
Leads {A} {B} CanBe (Ok value) gives rest before after =
    (expected : B) → CanBe value expected → (later : Openings) → CanOpen after later → ForSome before (λ openings. (gives openings ≡ Ok expected) × (rest openings ≡ later))
Leads {A} {B} CanBe (Err s) gives rest before after = Stops s gives before

-- the value itself is meant
abbrev pub Is : {A : Type 0} → A → A → Type 0
Is value expected = value ≡ expected

-- ---- one step after the other

-- the value of a step goes into the next one, and a refusal ends the call
abbrev pub and_then : {A B : Type 0} → Result A Refusal → (A → Result B Refusal) → Result B Refusal
and_then (Ok value) next = next value
and_then (Err refusal) next = Err refusal

-- what a call comes to: what it says, and the notes that each thread's handler is told
pub record Verdict : Type 0 where
  pub said : Said
  pub notes : List (List Note)

-- what a tool says that tells no handler anything
abbrev pub quiet : Result Said Refusal → Result Verdict Refusal
quiet (Ok said) = Ok (record { said = said; notes = [] })
quiet (Err refusal) = Err refusal

-- ---- what is read

-- the bytes of a tape that ended well, or the refusal of a read that failed
abbrev pub bytes_until : List ℕ → List ℕ → Ending → Result (List ℕ) Refusal
bytes_until name bytes End = Ok bytes
bytes_until name bytes Fault = Err (CannotRead name)

-- the whole of a tape, whose file has this name; too large takes precedence over a read that fails
abbrev pub bytes_of : ℕ → List ℕ → Tape → Result (List ℕ) Refusal
bytes_of limit name tape = if nat_lt limit (length tape.bytes) then Err (TooLarge name) else bytes_until name tape.bytes tape.ending

-- the bytes of a named file, whose opening is the next one
unfoldable pub file_bytes : ℕ → Openings → List ℕ → Result (List ℕ) Refusal
file_bytes limit openings name = and_then (tape_under openings name) (λ tape. bytes_of limit name tape)

-- the tapes under these names, whose openings are the next ones
abbrev pub tapes_under : Openings → List (List ℕ) → Result (List Tape) Refusal
tapes_under openings [] = Ok []
tapes_under openings (name ∷ names) =
    and_then (tape_under openings name) (λ tape.
    and_then (tapes_under (opened openings) names) (λ tapes. Ok (tape ∷ tapes)))

-- ---- the answer of a step

-- The answer is a value that is what is expected, or the refusal that is expected, or memory ran out.
abbrev pub AnswersBy : {A B : Type 0} → (A → Result B Refusal → Type 0) → Result A Stop → Result B Refusal → Type 0
AnswersBy is (Ok value) expected = is value expected
AnswersBy is (Err (Refused refusal)) expected = expected ≡ Err refusal
AnswersBy is (Err Memory) expected = Unit {0}

-- the value itself is expected
abbrev pub IsExpected : {A : Type 0} → A → Result A Refusal → Type 0
IsExpected value expected = expected ≡ Ok value

-- the answer is the expected value or refusal, or memory ran out
abbrev pub Answers : {A : Type 0} → Result A Stop → Result A Refusal → Type 0
Answers answer expected = AnswersBy IsExpected answer expected

-- what a tool with this answer says is what the words come to, for some openings of files that hold this
abbrev pub ToolSays : {W : Type 0} → Option Held → Result Said Stop → (Openings → W → Result Said Refusal) → W → Type 0
ToolSays held answer verdict words = ForSome held (λ openings. Answers answer (verdict openings words))
