-- Why a stream is refused at a line: this project's own, docs/FORMATS.md.
use Rattle.std.specs.Prelude.{ℕ, List, codes}
use Rattle.papi_base.specs.declared.occurrence.LineCause.{LineCause}
use Rattle.papi_base.specs.declared.occurrence.LineCause.TheVariants as cause

-- a cause as it is written on the line that names it
abbrev pub cause_text : LineCause → List ℕ
cause_text cause.Long = codes "line too long"
cause_text cause.Size = codes "stream too long"
cause_text cause.Fields = codes "wrong number of fields"
cause_text cause.Field = codes "bad field"
cause_text cause.Stamp = codes "stamp does not rise"
