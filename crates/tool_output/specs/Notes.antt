-- Notes of passed thresholds as lines of text: this project's own format, docs/FORMATS.md. PAPI_overflow(3).
use Rattle.std.specs.Prelude.{[], ◌∷◌, ◌++◌, false, decimal, codes}
use Rattle.std.specs.Fmt.{digits}
use Rattle.overflow_dispatch.specs.declared.handler.Note.{Note}
use Rattle.tool_output.specs.Replies.{Text}

-- `note`, the thread, the set, the event's index in it, and the program counter in hexadecimal without leading zeros
abbrev pub note_text : Note → Text
note_text note =
    codes "note " ++ (decimal note.thread ++ (32 ∷ (decimal note.set ++ (32 ∷ (decimal note.index
    ++ (codes " 0x" ++ (digits 16 false note.pc ++ 10 ∷ [])))))))
