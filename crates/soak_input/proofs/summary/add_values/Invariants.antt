use Rattle.soak_input.proofs.Words.{◌≡◌, drop, add_values}
use Rattle.soak_input.proofs.summary.add_values.Given as goal

abbrev pub invariant-loop-i : goal.invariant-loop-i
invariant-loop-i l = add_values l.sum (drop l.i l.values) ≡ add_values l.initial.sum l.values
