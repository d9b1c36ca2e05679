use Rattle.papi_tools.proofs.Words.{◌≡◌, drop, find, stops}
use Rattle.papi_tools.proofs.soak_totals.stop_values.Given as goal

abbrev pub invariant-loop-i : goal.invariant-loop-i
invariant-loop-i l = find (stops l.thread) l.lines ≡ find (stops l.thread) (drop l.i l.lines)
