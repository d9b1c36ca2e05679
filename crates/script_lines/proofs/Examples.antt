-- What written out scripts come to.
use Rattle.std.proofs.Common.{◌≡◌, ◌∷◌, [], List, ℕ, Result, codes, map, refl}
use Rattle.std.specs.Prelude.{Ok, Err}
use Rattle.table_rows.specs.Texts.{Text, decimal_in, hex_in, is_decimal, is_numeral}
use Rattle.call_type.specs.declared.call.Asked.TheVariants as asked
use Rattle.call_type.specs.declared.call.Call.TheVariants as call
use Rattle.script_lines.specs.declared.fault.ScriptCause.{ScriptCause}
use Rattle.script_lines.specs.declared.fault.ScriptCause.TheVariants as cause
use Rattle.script_lines.specs.declared.script.ScriptLine.{ScriptLine}
use Rattle.script_lines.specs.Calls.{call_rows}
use Rattle.script_lines.specs.Lines.{call_line, line_with}
use Rattle.script_lines.specs.ByLine.{Refused, lines_from}
use Rattle.script_lines.specs.Scripts.{script_of}
use Rattle.script_lines.specs.Words.{words_of}

unfoldable on_scripts : Unit {0}
unfolding script_of lines_from call_line words_of call_rows decimal_in hex_in is_decimal is_numeral
on_scripts = tt

-- scripts with their call lines or with the first fault
abbrev Row : Type 0
Row = Text × Result (List ScriptLine) (Refused ScriptCause)

abbrev refused : ℕ → ScriptCause → Result (List ScriptLine) (Refused ScriptCause)
refused line cause = Err (record { line = line; cause = cause })

scripts_read : (let rows : List Row = (codes "# sets\n0 create\r\n\n 0\tadd 0 CYCLES", Ok (line_with 2 0 (asked.Call call.Create) ∷ line_with 4 0 (asked.Call (call.Add 0 (codes "CYCLES"))) ∷ []))
    ∷ (codes "0 create\r", refused 1 cause.UnknownCall)
    ∷ (codes "0 start x", refused 1 cause.BadNumber)
    ∷ (codes "64 create", refused 1 cause.BadThread)
    ∷ (codes "00 create", refused 1 cause.BadThread)
    ∷ (codes "0", refused 1 cause.UnknownCall)
    ∷ (codes "0 create\n  \n", refused 2 cause.BadThread)
    ∷ (codes "0 create 1", refused 1 cause.BadArguments)
    ∷ (codes "0 run 4294967295\n0 run 4294967296", refused 2 cause.BadNumber)
    ∷ (codes "0 add x", refused 1 cause.BadArguments)
    ∷ (codes "63 register\n63 unregister\n0 threads", Ok (line_with 1 63 (asked.Call call.Register) ∷ line_with 2 63 (asked.Call call.Unregister) ∷ line_with 3 0 asked.Threads ∷ []))
    ∷ (codes "1 code lab::CYCLES\n0 name 0x4000000A\n0 name 0xfFFFffff", Ok (line_with 1 1 (asked.CodeOf (codes "lab::CYCLES")) ∷ line_with 2 0 (asked.NameOf 1073741834) ∷ line_with 3 0 (asked.NameOf 4294967295) ∷ []))
    ∷ (codes "0 name 0x", refused 1 cause.BadNumber)
    ∷ (codes "0 name 0x000000001", refused 1 cause.BadNumber)
    ∷ (codes "0 name 0X40000000", refused 1 cause.BadNumber)
    ∷ (codes "0 name 40000000", refused 1 cause.BadNumber)
    ∷ (codes "0 code A B", refused 1 cause.BadArguments)
    ∷ (codes "0 overflow 0 CYCLES 18446744073709551615\n0 overflow 0 CYCLES 18446744073709551616", refused 2 cause.BadNumber)
    ∷ [] in map (λ (r : Row). script_of r.0) rows ≡ map (λ (r : Row). r.1) rows)
unfolding on_scripts
scripts_read = refl
