use Rattle.papi_tools.proofs.Words.{◌≡◌, take, reading_values, readings_in}
use Rattle.papi_tools.proofs.region_counts.readings_of.Given as goal

abbrev pub invariant-loop-i : goal.invariant-loop-i
invariant-loop-i l = reading_values l.readings.items ≡ readings_in (take l.i l.lines)
