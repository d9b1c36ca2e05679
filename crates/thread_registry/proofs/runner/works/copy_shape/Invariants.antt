use Rattle.std.proofs.Common.{◌≡◌, take}
use Rattle.thread_registry.proofs.runner.works.copy_shape.Given as goal

abbrev pub invariant-loop-i : goal.invariant-loop-i
invariant-loop-i l = l.copy ≡ take l.i l.shape
