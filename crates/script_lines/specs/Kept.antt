-- What a script keeps: its limits, docs/FORMATS.md.
use Rattle.std.specs.Prelude.{◌<◌, ◌≤◌, All, List, length}
use Rattle.papi_base.specs.declared.limits.TheConstants.{THREADS}
use Rattle.script_lines.specs.declared.script.ScriptLine.{ScriptLine}
use Rattle.script_lines.specs.declared.script.TheConstants.{MOST_CALLS}

-- not too many call lines, each of a thread that there is
pub record IsScript (lines : List ScriptLine) : Type 0 where
  pub few : length lines ≤ MOST_CALLS
  pub threads : All (λ l. l.thread < THREADS) lines
