use Rattle.papi_tools.proofs.Words.{◌≡◌, map, range_with_len, total_between}
use Rattle.papi_tools.proofs.soak_totals.totals_between.Given as goal

abbrev pub invariant-loop-thread : goal.invariant-loop-thread
invariant-loop-thread l = l.totals.items ≡ map (total_between l.lines l.before l.after) (range_with_len 0 l.thread)
