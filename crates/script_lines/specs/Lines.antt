-- One line of a script: this project's own format, docs/FORMATS.md.
use Rattle.std.specs.Prelude.{◌<◌, ◌-◌, ◌||◌, ◌==◌, ℕ, Bool, List, [], ◌∷◌, length, Result, Err, if◌then◌else◌, nat_le, slice_index, IfOk}
use Rattle.papi_base.specs.declared.limits.TheConstants.{THREADS}
use Rattle.table_rows.specs.Texts.{Text, decimal_in}
use Rattle.table_rows.specs.declared.fault.RowRefusal.{RowRefusal}
use Rattle.script_lines.specs.declared.fault.ScriptCause.{ScriptCause}
use Rattle.script_lines.specs.declared.fault.ScriptCause.TheVariants.{BadThread, OverLimit, UnknownCall}
use Rattle.script_lines.specs.declared.script.ScriptLine.{ScriptLine}
use Rattle.script_lines.specs.declared.script.TheConstants.{MOST_CALLS}
use Rattle.script_lines.specs.Answers.{and_then, made_of}
use Rattle.script_lines.specs.Arguments.{number_or}
use Rattle.script_lines.specs.Calls.{Written, call_of}
use Rattle.script_lines.specs.Words.{words_of}

-- a line that is passed over: it is empty, or begins with `#`
abbrev pub is_skipped : Text → Bool
is_skipped line = (length line == 0) || (slice_index line 0 == 35)

-- the thread that a word names
abbrev pub thread_in : Text → Result ℕ ScriptCause
thread_in word = number_or BadThread (decimal_in 0 (THREADS - 1) word)

-- a line of a script, by its number
abbrev pub line_with : ℕ → ℕ → Written → ScriptLine
line_with number thread call = record { line = number; thread = thread; call = call }

-- the call line of what stands after its thread
abbrev pub line_of_call : ℕ → ℕ → List Text → Result ScriptLine ScriptCause
line_of_call number thread [] = Err UnknownCall
line_of_call number thread (word ∷ arguments) = made_of (line_with number thread) (call_of word arguments)

-- the call line of some words
abbrev pub line_of_words : ℕ → List Text → Result ScriptLine ScriptCause
line_of_words number [] = Err BadThread
line_of_words number (thread ∷ words) = and_then (thread_in thread) (λ thread. line_of_call number thread words)

-- the call line of a number, after n call lines
unfoldable pub call_line : ℕ → ℕ → Text → Result ScriptLine ScriptCause
call_line number above line = if nat_le MOST_CALLS above then Err OverLimit else line_of_words number (words_of line)

-- a line was read after fewer than the most, and its thread is one that there is
abbrev pub IsAllowed : ℕ → Result ScriptLine (RowRefusal ScriptCause) → Type 0
IsAllowed above read = IfOk read (λ line. (above < MOST_CALLS) × (line.thread < THREADS))
