-- The causes of a refused line in words: this project's own texts, docs/FORMATS.md.
use Rattle.std.specs.Prelude.{ℕ, List, codes}
use Rattle.script_lines.specs.declared.fault.ScriptCause.{ScriptCause}
use Rattle.script_lines.specs.declared.fault.ScriptCause.TheVariants as script
use Rattle.region_report.specs.declared.fault.RegionCause.{RegionCause}
use Rattle.region_report.specs.declared.fault.RegionCause.TheVariants as cause

-- each cause as it stands in a message, after the number of the line
abbrev pub text_of : RegionCause → List ℕ
text_of cause.OverLimit = codes "over a limit"
text_of cause.BadThread = codes "bad thread"
text_of cause.UnknownCall = codes "unknown call"
text_of cause.BadArguments = codes "wrong arguments"
text_of cause.BadNumber = codes "bad number"
text_of cause.WrongRegion = codes "wrong region"
text_of cause.NotEnded = codes "region not ended"

-- the cause that a line of a script of calls would have
abbrev pub cause_of : ScriptCause → RegionCause
cause_of script.OverLimit = cause.OverLimit
cause_of script.BadThread = cause.BadThread
cause_of script.UnknownCall = cause.UnknownCall
cause_of script.BadArguments = cause.BadArguments
cause_of script.BadNumber = cause.BadNumber
