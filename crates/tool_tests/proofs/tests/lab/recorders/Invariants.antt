use Rattle.std.proofs.Common.{◌≡◌, vec_len}
use Rattle.tool_tests.proofs.tests.lab.recorders.Given as goal

abbrev pub invariant-loop-thread : goal.invariant-loop-thread
invariant-loop-thread g l = vec_len l.handlers ≡ l._thread
