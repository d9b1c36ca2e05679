use Rattle.soak_input.proofs.Words.{◌≡◌, ◌++◌, take, string_bytes, values_text}
use Rattle.soak_input.proofs.summary.push_values.Given as goal

abbrev pub invariant-loop-i : goal.invariant-loop-i
invariant-loop-i l = string_bytes l.text ≡ string_bytes l.initial.text ++ values_text (take l.i l.values)
