-- Lines of a script in the form that long scripts repeat: a thread, a call and a number, a space between them and a newline after them.
-- They are lines like all others: what such a line says is what `call_line` gives.
use Rattle.std.specs.Prelude.{◌≡◌, ◌<◌, ◌≤◌, ◌+◌, ◌-◌, ◌∷◌, ◌++◌, ℕ, true, false, List, Ok, codes, drop, length, take}
use Rattle.std.specs.Str.Lines.{lines}
use Rattle.std.specs.Str.Parse.{digits_value}
use Rattle.call_type.specs.declared.call.Asked.TheVariants as asked
use Rattle.call_type.specs.declared.call.Call.TheVariants as call
use Rattle.papi_base.specs.declared.limits.TheConstants.{THREADS}
use Rattle.table_rows.specs.Texts.{Text, is_decimal}
use Rattle.script_lines.specs.Calls.{Written}
use Rattle.script_lines.specs.Lines.{call_line, is_skipped}
use Rattle.script_lines.specs.declared.script.ScriptLine.{ScriptLine}
use Rattle.script_lines.specs.declared.script.TheConstants.{MOST_CALLS}
use Rattle.script_lines.specs.declared.short.Repeated.{Repeated}
use Rattle.script_lines.specs.declared.short.Repeated.TheVariants.{Accum, Read, Run}

-- the word of a call that is repeated
abbrev pub word : Repeated → Text
word Read = codes "read"
word Accum = codes "accum"
word Run = codes "run"

-- that call of a number
abbrev pub call_of : Repeated → ℕ → Written
call_of Read set = asked.Call (call.Read set)
call_of Accum set = asked.Call (call.Accum set)
call_of Run n = asked.Call (call.Run n)

-- The first bytes, this many, are this number in decimal without leading zeros; a byte stands after them.
pub record BeginsWithNumber (bytes : List ℕ) (size value : ℕ) : Type 0 where
  pub inside : size < length bytes
  pub decimal : is_decimal (take size bytes) ≡ true
  pub same : digits_value 10 (take size bytes) ≡ value

-- a text between two spaces, before these bytes
abbrev pub spaced : Text → List ℕ → List ℕ
spaced text rest = (32 ∷ text) ++ 32 ∷ rest

-- The first bytes, this many, are the word of this call with a space before it and one after it.
pub record BeginsWithWord (bytes : List ℕ) (size : ℕ) (name : Repeated) : Type 0 where
  pub long : size ≡ length (word name) + 2
  pub same : bytes ≡ spaced (word name) (drop size bytes)

-- The first bytes, this many, are a line with its newline. It is no line to be passed over, and says this as the line of this number, after this many call lines.
pub record BeginsWithLine (number above : ℕ) (bytes : List ℕ) (size : ℕ) (line : ScriptLine) : Type 0 where
  pub some : 0 < size
  pub inside : size ≤ length bytes
  pub first : lines bytes ≡ take (size - 1) bytes ∷ lines (drop size bytes)
  pub heeded : is_skipped (take (size - 1) bytes) ≡ false
  pub said : call_line number above (take (size - 1) bytes) ≡ Ok line
  pub few : above < MOST_CALLS
  pub thread : line.thread < THREADS
