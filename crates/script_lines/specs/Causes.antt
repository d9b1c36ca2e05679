-- The causes of a refused line in words: this project's own texts, docs/FORMATS.md.
use Rattle.std.specs.Prelude.{ℕ, List, codes}
use Rattle.table_rows.specs.declared.fault.RowRefusal.{RowRefusal}
use Rattle.table_rows.specs.declared.fault.RowRefusal.TheVariants as refusal
use Rattle.script_lines.specs.declared.fault.LineFault.{LineFault}
use Rattle.script_lines.specs.declared.fault.LineFault.TheVariants as fault
use Rattle.script_lines.specs.declared.fault.ScriptCause.{ScriptCause}
use Rattle.script_lines.specs.declared.fault.ScriptCause.TheVariants as cause

-- a cause in words
abbrev pub text_of : ScriptCause → List ℕ
text_of cause.OverLimit = codes "over a limit"
text_of cause.BadThread = codes "bad thread"
text_of cause.UnknownCall = codes "unknown call"
text_of cause.BadArguments = codes "wrong arguments"
text_of cause.BadNumber = codes "bad number"

-- the fault of a text if the line of this number is refused
abbrev pub fault_at : {C : Type 0} → ℕ → RowRefusal C → LineFault C
fault_at number (refusal.Cause cause) = fault.Line number cause
fault_at number refusal.Memory = fault.Memory
