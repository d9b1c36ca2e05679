use Rattle.thread_registry.proofs.Words.{false, ◌≡◌, ◌+◌, ◌++◌, All, map, reverse, vec_len, vec_capacity, session_of}
use Rattle.thread_registry.proofs.runner.lending.put_back.Given as goal

abbrev pub invariant-loop-put : goal.invariant-loop-put
invariant-loop-put g l =
    record {
      jobs_len : vec_len l.jobs + l._put ≡ vec_len l.initial.jobs;
      handlers_len : vec_len l.handlers ≡ l._put;
      readers_len : vec_len l.readers ≡ l._put;
      replies_len : vec_len l.replies ≡ l._put;
      room : vec_capacity l.handlers ≡ vec_capacity l.initial.handlers;
      reader_room : vec_capacity l.readers ≡ vec_capacity l.initial.readers;
      reply_room : vec_capacity l.replies ≡ vec_capacity l.initial.replies;
      handlers :
          map (λ b. (goal.Handler-dyn g (b.vtable, b.value)).notes b.value) l.handlers.items ++ reverse (map (λ j. (goal.Handler-dyn g (j.handler.vtable, j.handler.value)).notes j.handler.value) l.jobs.items)
          ≡ reverse (map (λ j. (goal.Handler-dyn g (j.handler.vtable, j.handler.value)).notes j.handler.value) l.initial.jobs.items);
      readers :
          l.readers.items ++ reverse (map (λ j. (session_of j.session).reader) l.jobs.items)
          ≡ reverse (map (λ j. (session_of j.session).reader) l.initial.jobs.items);
      replies :
          l.replies.items ++ reverse (map (λ j. j.replies) l.jobs.items)
          ≡ reverse (map (λ j. j.replies) l.initial.jobs.items);
      whole : l.refused ≡ false → All (λ j. j.starved ≡ false) l.jobs.items → All (λ j. j.starved ≡ false) l.initial.jobs.items;
    }
