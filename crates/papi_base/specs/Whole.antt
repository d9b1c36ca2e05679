-- What reading a whole tape gives.
use Rattle.std.specs.Prelude.{◌≡◌, ◌<◌, ◌≤◌, ℕ, length, Result, Ok, Err, Vec}
use Rattle.std.specs.declared.alloc.Global.{Global}
use Rattle.papi_base.specs.Outside.{Tape}
use Rattle.papi_base.specs.declared.outside.Ending.TheVariants.{End, Fault}
use Rattle.papi_base.specs.declared.whole.WholeFault.{WholeFault}
use Rattle.papi_base.specs.declared.whole.WholeFault.TheVariants.{TooLarge, Failed, Memory}

-- The answer to reading this tape whole. Memory may run out at any tape.
abbrev pub AnswersWhole : Result (Vec ℕ Global) WholeFault → ℕ → Tape → Type 0
AnswersWhole (Ok bytes) limit tape = (bytes.items ≡ tape.bytes) × (tape.ending ≡ End) × (length tape.bytes ≤ limit)
AnswersWhole (Err TooLarge) limit tape = limit < length tape.bytes
AnswersWhole (Err Failed) limit tape = (length tape.bytes ≤ limit) × (tape.ending ≡ Fault)
AnswersWhole (Err Memory) limit tape = Unit {0}
