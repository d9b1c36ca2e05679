use Rattle.overflow_dispatch.proofs.Passes.{AreCounters-none, IsEnd-none}
use Rattle.overflow_dispatch.proofs.thresholds.Thresholds.new.Goals as goal

pub invariant_of-result : goal.invariant_of-result
invariant_of-result c = (AreCounters-none, IsEnd-none)
