-- The answer to a line, and to parts of it.
use Rattle.std.specs.Prelude.{◌≡◌, Result, Ok, Err}
use Rattle.table_rows.specs.declared.fault.RowRefusal.{RowRefusal}
use Rattle.table_rows.specs.declared.fault.RowRefusal.TheVariants.{Cause, Memory}

-- The answer if this is read, or refused for its cause. Memory may run out at any line.
abbrev pub Answers : {A C : Type 0} → Result A (RowRefusal C) → Result A C → Type 0
Answers (Ok value) read = read ≡ Ok value
Answers (Err (Cause cause)) read = read ≡ Err cause
Answers (Err Memory) read = Unit {0}

-- what is read, made into something else
abbrev pub made_of : {A B C : Type 0} → (A → B) → Result A C → Result B C
made_of make (Ok value) = Ok (make value)
made_of make (Err cause) = Err cause

-- what is read from what was read before
abbrev pub and_then : {A B C : Type 0} → Result A C → (A → Result B C) → Result B C
and_then (Ok value) next = next value
and_then (Err cause) next = Err cause
