-- What a call of the program comes to, as a function of its words and of what its openings find.
use Rattle.std.specs.Prelude.{◌≡◌, ℕ, List, [], Option, Some, None, IfOk, IsOkAnd, OnErr, OnOk, Result, Ok, Err}
use Rattle.papi_base.specs.Outside.{Held, Rose}
use Rattle.overflow_dispatch.specs.declared.handler.Note.{Note}
use Rattle.overflow_dispatch.specs.Notes.{EachAdded, EachBegun, EachGrown}
use Rattle.tool_words.specs.Form.{form}
use Rattle.tool_words.specs.declared.command.Command.{Command}
-- tools/make_tools: begin uses
use Rattle.tool_words.specs.declared.command.Command.TheVariants.{Run, Profil, Regions, Avail, NativeAvail, EventChooser, Decode, Encode, Soak}
use Rattle.papi_tools.specs.Choosing.{chooser_verdict}
use Rattle.papi_tools.specs.Decoding.{decode_verdict}
use Rattle.papi_tools.specs.Encoding.{encode_verdict}
use Rattle.papi_tools.specs.NativeListing.{native_avail_verdict}
use Rattle.papi_tools.specs.PresetListing.{avail_verdict}
use Rattle.papi_tools.specs.Profiling.{profil_verdict}
use Rattle.papi_tools.specs.RegionCounts.{regions_verdict}
use Rattle.papi_tools.specs.Run.{run_verdict}
use Rattle.papi_tools.specs.Soaking.{soak_verdict}
-- tools/make_tools: end uses
use Rattle.papi_tools.specs.Openings.{AnswersBy, ForSome, Openings, Verdict, quiet}
use Rattle.papi_tools.specs.Looking.{FilesSeen, Shows}
use Rattle.papi_tools.specs.ErrorLines.{line_of, outcome_of}
use Rattle.papi_tools.specs.declared.refusal.Refusal.{Refusal}
use Rattle.papi_tools.specs.declared.refusal.Refusal.TheVariants.{BadWords, NoSuchFile}
use Rattle.papi_tools.specs.declared.refusal.Stop.{Stop}
use Rattle.papi_tools.specs.declared.refusal.Stop.TheVariants as stop
use Rattle.papi_tools.specs.declared.said.Said.{Said}

-- tools/make_tools: begin rows
-- what a command comes to: a row for each tool
abbrev pub command_verdict : Openings → Command → Result Verdict Refusal
command_verdict openings (Run words) = run_verdict openings words
command_verdict openings (Profil words) = profil_verdict openings words
command_verdict openings (Regions words) = quiet (regions_verdict openings words)
command_verdict openings (Avail words) = quiet (avail_verdict openings words)
command_verdict openings (NativeAvail words) = quiet (native_avail_verdict openings words)
command_verdict openings (EventChooser words) = quiet (chooser_verdict openings words)
command_verdict openings (Decode words) = quiet (decode_verdict openings words)
command_verdict openings (Encode words) = quiet (encode_verdict openings words)
command_verdict openings (Soak words) = soak_verdict words

-- tools/make_tools: end rows

-- what the words come to, if they are a command
abbrev pub verdict_for : Openings → Option Command → Result Verdict Refusal
verdict_for openings None = Err BadWords
verdict_for openings (Some command) = command_verdict openings command

-- a refusal says its line and nothing else, and there are no notes
abbrev pub refused_said : Refusal → Said
refused_said refusal = record { outcome = outcome_of refusal; out = []; err = line_of refusal }

-- a refusal is said, and what else a command comes to stands as it is
abbrev pub ended : Result Verdict Refusal → Verdict
ended (Ok verdict) = verdict
ended (Err refusal) = record { said = refused_said refusal; notes = [] }

-- What a call of the program comes to: both outputs, the outcome, and the notes of each thread, by its words and by what its openings find.
abbrev pub verdict : List (List ℕ) → Openings → Verdict
verdict words openings = ended (verdict_for openings (form words))

-- the notes of what is expected: a refusal has none
abbrev pub notes_in : Result Verdict Refusal → List (List Note)
notes_in (Ok verdict) = verdict.notes
notes_in (Err refusal) = []

-- The answer of a tool says what is expected, or memory ran out.
abbrev pub IsSaid : Said → Result Verdict Refusal → Type 0
IsSaid said expected = IsOkAnd expected (λ verdict. verdict.said ≡ said)

-- the tool's answer is what its verdict says, or its refusal, or memory ran out
abbrev pub AnswersSaid : Result Said Stop → Result Verdict Refusal → Type 0
AnswersSaid answer expected = AnswersBy IsSaid answer expected

-- What is said at the end of the steps: what they say, or the line of the refusal that ended them.
abbrev pub IsSettled : Result Said Stop → Said → Type 0
IsSettled (Ok answer) said = said ≡ answer
IsSettled (Err (stop.Refused refusal)) said = said ≡ refused_said refusal
IsSettled (Err stop.Memory) said = ⊥

-- With this answer a tool has told each handler the notes of its thread; if memory ran out, a prefix of them.
abbrev pub TellsBy : Result Said Stop → List (List Note) → List (List Note) → List (List Note) → Type 0
TellsBy (Ok said) given before after = EachAdded before given after
TellsBy (Err (stop.Refused refusal)) given before after = EachAdded before given after
TellsBy (Err stop.Memory) given before after = EachBegun before given after

-- A tool with this answer says what is expected, and has told the handlers its notes.
pub record ComesTo (answer : Result Said Stop) (expected : Result Verdict Refusal) (before after : List (List Note)) : Type 0 where
  pub said : AnswersSaid answer expected
  pub told : TellsBy answer (notes_in expected) before after

-- A tool with this answer came to its verdict for some openings of files that hold this, each list of notes has grown at its end, and the
-- outcome shows what it must of the count of the files' faults.
pub record ToolTells (held : Option Held) (faults faults' : ℕ) (answer : Result Said Stop) (verdict : Openings → Result Verdict Refusal) (MaySayNo : Type 0) (before after : List (List Note)) : Type 0 where
  pub ran : ForSome held (λ openings. ComesTo answer (verdict openings) before after)
  pub grown : EachGrown before after
  pub shows : IfOk answer (λ said. Shows MaySayNo faults faults' said.outcome)

-- What is to be said is what is expected, and its notes are told; if memory ran out, a prefix of them. A file is missing only if the misses rose.
pub record IsSettledAs {E : Type 0} (result : Result Said E) (expected : Result Verdict Refusal) (files files' : FilesSeen) (before after : List (List Note)) : Type 0 where
  pub said : IfOk result (λ said. said ≡ (ended expected).said)
  pub missing : OnOk result ((name : List ℕ) → expected ≡ Err (NoSuchFile name) → Rose files.misses files'.misses)
  pub told : OnOk result (EachAdded before (ended expected).notes after)
  pub begun : OnErr result (EachBegun before (ended expected).notes after)
