use Rattle.thread_registry.proofs.Words.{◌≡◌, ◌<◌, ◌^◌, ◌-◌, drop, bits_from}
use Rattle.thread_registry.proofs.registry.Registry.listed.Given as goal

abbrev pub invariant-loop-thread : goal.invariant-loop-thread
invariant-loop-thread l =
    record {
      listed : l.listed ≡ bits_from 1 (drop l.thread l.self);
      below : l.listed < 2 ^ (64 - l.thread);
    }
