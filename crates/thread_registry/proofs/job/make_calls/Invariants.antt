use Rattle.thread_registry.proofs.Words.{false, seen_of}
use Rattle.thread_registry.proofs.Going.{Going}
use Rattle.thread_registry.proofs.job.make_calls.Given as goal

abbrev pub invariant-loop-call : goal.invariant-loop-call
invariant-loop-call g l =
    Going l.book
    (seen_of l.fn.session ((goal.Handler-dyn g l.fn.h.now).notes l.fn.h.now.1) l.calls l.fn.replies false)
    (seen_of l.session ((goal.Handler-dyn g l.h.now).notes l.h.now.1) l.calls l.replies false)
    l.call-index
