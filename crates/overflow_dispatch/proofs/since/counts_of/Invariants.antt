use Rattle.std.proofs.Common.{◌≡◌, length, map, take}
use Rattle.overflow_dispatch.proofs.since.counts_of.Given as goal

abbrev pub invariant-loop-handler : goal.invariant-loop-handler
invariant-loop-handler g l = l.counts.items ≡ map (λ b. length ((goal.Handler-dyn g (b.vtable, b.value)).notes b.value)) (take l.handler-index l.handler-items)
