use Rattle.thread_registry.proofs.Words.{◌≡◌, ◌+◌, ◌-◌, All, map, reverse, take, drop, vec_len, vec_capacity, Widths, IsOpenedForCalls, seen}
use Rattle.thread_registry.proofs.Words.{befores_of, AreWorks}
use Rattle.thread_registry.proofs.runner.lending.take_out.Given as goal

abbrev pub invariant-loop-taken : goal.invariant-loop-taken
invariant-loop-taken g l =
    let n = vec_len l.initial.handlers in
    record {
      handlers_len : vec_len l.handlers + l._taken ≡ n;
      readers_len : vec_len l.readers + l._taken ≡ n;
      works_len : vec_len l.works + l._taken ≡ n;
      jobs_len : vec_len l.jobs ≡ l._taken;
      room : vec_capacity l.jobs ≡ vec_capacity l.initial.jobs;
      capacity : vec_capacity l.handlers ≡ vec_capacity l.initial.handlers;
      reader_capacity : vec_capacity l.readers ≡ vec_capacity l.initial.readers;
      handlers : l.handlers.items ≡ take (n - l._taken) l.initial.handlers.items;
      readers : l.readers.items ≡ take (n - l._taken) l.initial.readers.items;
      works : l.works.items ≡ take (n - l._taken) l.initial.works.items;
      opened : All (λ j. IsOpenedForCalls j.session j.calls.items) l.jobs.items;
      jobs :
          (shape : Widths) → AreWorks shape l.initial.works.items
          → map (λ j. seen ((goal.Handler-dyn g (j.handler.vtable, j.handler.value)).notes j.handler.value) j) l.jobs.items
          ≡ reverse (drop (n - l._taken) (befores_of shape l.initial.readers.items (map (λ b. (goal.Handler-dyn g (b.vtable, b.value)).notes b.value) l.initial.handlers.items) l.initial.works.items));
    }
