-- How a tool's words are read: by the matches that `clap` defines for a simple command.
use Rattle.std.specs.Prelude.{◌≡◌, true, List, [], ◌∷◌, Option, None, Some, Result, Ok, Err, codes, map}
use Rattle.clap.specs.Words.{App, Kinds, Row, Rule, Text, fault_of, found_of, is_simple_and_free, matches_of, new_app, rows_of}
use Rattle.clap.specs.declared.error.kind.ErrorKind.{ErrorKind}
use Rattle.clap.specs.declared.error.kind.ErrorKind.TheVariants as kind
use Rattle.clap.specs.declared.parser.matches.ArgMatches.{ArgMatches}
use Rattle.tool_words.specs.Arguments.{rule}
use Rattle.tool_words.specs.declared.argument.Argument.{Argument}
use Rattle.tool_words.specs.declared.fault.WordsFault.{WordsFault}
use Rattle.tool_words.specs.declared.fault.WordsFault.TheVariants.{BadWords, Memory}

-- The command with these arguments, in order. Its name is in no text that is shown.
abbrev pub app_with : List Rule → App
app_with rules = record (new_app (codes "papi")) { top = record (new_app (codes "papi")).top { rules = rules } }

-- nothing, if there is a kind of refusal
abbrev pub unless_refused : {A : Type 0} → Kinds → Option A → Option A
unless_refused [] given = given
unless_refused (k ∷ ks) given = None

-- what two values come to, if both are there
abbrev pub of_both : {A B C : Type 0} → (A → B → C) → Option A → Option B → Option C
of_both made (Some a) (Some b) = Some (made a b)
of_both made _ _ = None

-- the form of a tool's words: its arguments in order, of which `clap` says exactly which words they take, and what their matches ask for
pub record ToolForm (A : Type 0) : Type 0 where
  pub arguments : List Argument
  pub asked : List Row → Option A
  pub defined : is_simple_and_free (app_with (map rule arguments)) ≡ true

-- the command of a form
abbrev pub app_by : {A : Type 0} → ToolForm A → App
app_by form = app_with (map rule form.arguments)

-- what words ask for, by a form: nothing if its arguments refuse them, else what their matches come to
unfoldable pub read_by : {A : Type 0} → ToolForm A → List Text → Option A
read_by form words = unless_refused (fault_of (app_by form) words) (form.asked (matches_of (app_by form) words))

-- The answer to words that ask for this, or for nothing. Memory may run out at any words.
abbrev pub Answers : {A : Type 0} → Result A WordsFault → Option A → Type 0
Answers (Ok value) asked = asked ≡ Some value
Answers (Err BadWords) asked = asked ≡ None
Answers (Err Memory) asked = Unit {0}

-- there is a kind of refusal
abbrev pub HasSomeKind : Kinds → Type 0
HasSomeKind [] = ⊥
HasSomeKind (k ∷ ks) = Unit {0}

-- the matches of words under a command
abbrev pub AreMatches : Result ArgMatches WordsFault → App → List Text → Type 0
AreMatches (Ok matches) app words = (fault_of app words ≡ []) × (rows_of (found_of matches) ≡ matches_of app words)
AreMatches (Err BadWords) app words = HasSomeKind (fault_of app words)
AreMatches (Err Memory) app words = Unit {0}

-- the fault of words at which `clap` answers with an error of this kind
abbrev pub fault_by : ErrorKind → WordsFault
fault_by kind.OutOfMemory = Memory
fault_by _ = BadWords
