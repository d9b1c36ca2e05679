-- One line of a region script: this project's own format, docs/FORMATS.md.
use Rattle.std.specs.Prelude.{◌+◌, ◌-◌, ℕ, Bool, true, false, List, [], ◌∷◌, ◌++◌, length}
use Rattle.std.specs.Prelude.{take, Option, Some, None, Result, Ok, Err, codes, if◌then◌else◌, nat_le, slice_get, slice_index_or, slice_set}
use Rattle.std.specs.Str.{bytes_eq}
use Rattle.table_rows.specs.Texts.{Text, is_name}
use Rattle.script_lines.specs.Answers.{and_then}
use Rattle.script_lines.specs.Arguments.{one_number}
use Rattle.script_lines.specs.Lines.{thread_in}
use Rattle.script_lines.specs.Words.{words_of}
use Rattle.script_lines.specs.declared.fault.ScriptCause.{ScriptCause}
use Rattle.region_report.specs.Causes.{cause_of}
use Rattle.region_report.specs.declared.fault.RegionCause.{RegionCause}
use Rattle.region_report.specs.declared.fault.RegionCause.TheVariants.{BadArguments, BadThread, OverLimit, UnknownCall, WrongRegion}
use Rattle.region_report.specs.declared.regions.RegionCall.{RegionCall}
use Rattle.region_report.specs.declared.regions.RegionCall.TheVariants as call
use Rattle.region_report.specs.declared.regions.RegionLine.{RegionLine}
use Rattle.region_report.specs.declared.regions.TheConstants.{MOST_LINES, MOST_OPEN_REGIONS}

-- ---- the regions that are open

-- an open region: its name, and which reading is that of its begin, from 0
pub record Open : Type 0 where
  pub name : Text
  pub begun : ℕ

-- the open regions of a thread, the innermost last
abbrev pub open_of : List (List Open) → ℕ → List Open
open_of opens thread = slice_index_or opens thread []

-- the region that was begun last and is still open, which alone can be read and ended
abbrev pub innermost : List Open → Option Open
innermost opens = slice_get opens (length opens - 1)

-- those of a thread after a call of it
abbrev pub after_call : List Open → RegionLine → RegionCall → List Open
after_call opens line (call.Begin name) = opens ++ record { name = name; begun = line.begun } ∷ []
after_call opens line (call.Read name) = opens
after_call opens line (call.End name) = take (length opens - 1) opens
after_call opens line (call.Run count) = opens

-- those of all threads after a line
abbrev pub after_line : List (List Open) → RegionLine → List (List Open)
after_line opens line = slice_set opens line.thread (after_call (open_of opens line.thread) line line.call)

-- a line at which the counters are read
abbrev pub reads_call : RegionCall → Bool
reads_call (call.Begin name) = true
reads_call (call.Read name) = true
reads_call (call.End name) = true
reads_call (call.Run count) = false

-- a line that begins, reads or ends a region
abbrev pub is_reading : RegionLine → Bool
is_reading line = reads_call line.call

-- how many readings there are after a line
abbrev pub after_reading : ℕ → RegionLine → ℕ
after_reading readings line = if is_reading line then readings + 1 else readings

-- ---- the parts of a line

-- a word that the format of scripts has too, and that is refused for the same cause here
abbrev pub by_script : {A : Type 0} → Result A ScriptCause → Result A RegionCause
by_script (Ok value) = Ok value
by_script (Err cause) = Err (cause_of cause)

-- one name
abbrev pub one_name : List Text → Result Text RegionCause
one_name (name ∷ []) = if is_name name then Ok name else Err BadArguments
one_name _ = Err BadArguments

-- the reading at which the innermost open region began, which must have this name
abbrev pub begun_of : Option Open → Text → Result ℕ RegionCause
begun_of None name = Err WrongRegion
begun_of (Some opens) name = if bytes_eq opens.name name then Ok opens.begun else Err WrongRegion

-- the name that begins a region of a thread that has not too many regions open
abbrev pub begun_name : List Open → List Text → Result Text RegionCause
begun_name opens arguments = if nat_le MOST_OPEN_REGIONS (length opens) then Err OverLimit else one_name arguments

-- the name that the innermost open region must have, and the reading at which that began
abbrev pub innermost_name : Option Open → List Text → Result (Text × ℕ) RegionCause
innermost_name opens arguments = and_then (one_name arguments) (λ name. and_then (begun_of opens name) (λ begun. Ok (name, begun)))

-- ---- the calls of a thread with these open regions, each with the reading at which its region begins or began

-- `begin NAME`: PAPI_hl_region_begin(3), if its thread has not too many regions open
abbrev pub begin_call : ℕ → List Open → List Text → Result (RegionCall × ℕ) RegionCause
begin_call readings opens arguments = and_then (begun_name opens arguments) (λ name. Ok (call.Begin name, readings))

-- a call of the innermost open region
abbrev pub innermost_call : (Text → RegionCall) → List Open → List Text → Result (RegionCall × ℕ) RegionCause
innermost_call make opens arguments = and_then (innermost_name (innermost opens) arguments) (λ named. Ok (make named.0, named.1))

-- `run COUNT`: the thread runs on by n occurrences, as in a script of calls
abbrev pub run_call : ℕ → List Text → Result (RegionCall × ℕ) RegionCause
run_call readings arguments = and_then (by_script (one_number arguments)) (λ count. Ok (call.Run count, readings))

-- the call of a line by the word after its thread
abbrev pub region_call : ℕ → List Open → Text → List Text → Result (RegionCall × ℕ) RegionCause
region_call readings opens word arguments =
    if bytes_eq word (codes "begin") then begin_call readings opens arguments
    else if bytes_eq word (codes "read") then innermost_call (λ name. call.Read name) opens arguments
    else if bytes_eq word (codes "end") then innermost_call (λ name. call.End name) opens arguments
    else if bytes_eq word (codes "run") then run_call readings arguments
    else Err UnknownCall

-- ---- a line

-- a line of this number and thread, from its call and the reading at which its region begins or began
abbrev pub line_with : ℕ → ℕ → RegionCall × ℕ → RegionLine
line_with number thread called = record { line = number; thread = thread; call = called.0; begun = called.1 }

-- a line by the words after its thread, of which the first names the call
abbrev pub line_of_thread : ℕ → ℕ → List (List Open) → ℕ → List Text → Result RegionLine RegionCause
line_of_thread number readings opens thread [] = Err UnknownCall
line_of_thread number readings opens thread (word ∷ arguments) =
    and_then (region_call readings (open_of opens thread) word arguments) (λ called. Ok (line_with number thread called))

-- a line by its words, of which the first is its thread
abbrev pub line_of_words : ℕ → ℕ → List (List Open) → List Text → Result RegionLine RegionCause
line_of_words number readings opens [] = Err BadThread
line_of_words number readings opens (thread ∷ words) =
    and_then (by_script (thread_in thread)) (λ thread. line_of_thread number readings opens thread words)

-- the line of a number, after n lines and m readings, with these regions open
unfoldable pub region_line : ℕ → ℕ → ℕ → List (List Open) → Text → Result RegionLine RegionCause
region_line number above readings opens line =
    if nat_le MOST_LINES above then Err OverLimit else line_of_words number readings opens (words_of line)
