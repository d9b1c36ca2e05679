-- A whole script: this project's own format, docs/FORMATS.md.
use Rattle.std.specs.Prelude.{◌+◌, ℕ, List, [], Result, Ok}
use Rattle.std.specs.Str.Lines.{lines}
use Rattle.script_lines.specs.declared.fault.LineFault.{LineFault}
use Rattle.script_lines.specs.declared.fault.ScriptCause.{ScriptCause}
use Rattle.script_lines.specs.declared.script.Script.{Script}
use Rattle.script_lines.specs.declared.script.ScriptLine.{ScriptLine}
use Rattle.script_lines.specs.ByLine.{Format, ReadsLines, Refused, lines_from}
use Rattle.script_lines.specs.Lines.{call_line}

-- scripts, by the number of call lines above a line
abbrev pub scripts : Format ℕ ScriptLine ScriptCause
scripts = record { line_of = call_line; after = λ above line. above + 1; at_end = λ number above. Ok [] }

-- the call lines of a script, or its first line that is not a call line, with the first cause that it has
unfoldable pub script_of : List ℕ → Result (List ScriptLine) (Refused ScriptCause)
script_of bytes = lines_from scripts 1 0 (lines bytes)

-- The answer to these bytes. Memory may run out at any script.
abbrev pub ReadsScript : Result Script (LineFault ScriptCause) → List ℕ → Type 0
ReadsScript result bytes = ReadsLines result (script_of bytes)
