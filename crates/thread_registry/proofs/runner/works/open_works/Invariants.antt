use Rattle.thread_registry.proofs.Words.{◌≡◌, length, map, vec_len, AreWorks, calls_of}
use Rattle.thread_registry.proofs.runner.works.open_works.Given as goal

abbrev pub invariant-loop-calls : goal.invariant-loop-calls
invariant-loop-calls l =
    record {
      len : vec_len l.works ≡ length l.yielded;
      works : AreWorks l.shape l.works.items;
      calls : map calls_of l.works.items ≡ map (λ c. c.items) l.yielded;
    }
