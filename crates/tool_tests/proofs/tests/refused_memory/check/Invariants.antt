use Rattle.std.proofs.Common.{◌≡◌, vec_len}
use Rattle.tool_tests.proofs.tests.refused_memory.check.Given as goal

abbrev pub invariant-loop-thread : goal.invariant-loop-thread
invariant-loop-thread g l = vec_len l.handlers ≡ l.thread
