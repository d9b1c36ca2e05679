use Rattle.std.proofs.Common.{◌≡◌, drop}
use Rattle.script_lines.specs.Calls.{call_rows, form_of}
use Rattle.script_lines.proofs.asked.any_name.Given as goal

abbrev pub invariant-loop-name : goal.invariant-loop-name
invariant-loop-name l = form_of l.word call_rows ≡ form_of l.word (drop l.name-index call_rows)
