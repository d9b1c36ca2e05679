use Rattle.std.proofs.Common.{◌≡◌, vec_len}
use Rattle.papi_tools.proofs.region_counts.count.Given as goal

abbrev pub invariant-loop-thread : goal.invariant-loop-thread
invariant-loop-thread g l = vec_len l.handlers ≡ l._thread
