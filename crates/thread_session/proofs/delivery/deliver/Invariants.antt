use Rattle.thread_session.proofs.Words.{◌≡◌, ◌++◌, drop, map, take, note}
use Rattle.thread_session.proofs.delivery.deliver.Given as goal

abbrev pub invariant-loop-told : goal.invariant-loop-told
invariant-loop-told g l = record {
  told : (goal.Handler-dyn g l.h.now).notes l.h.now.1
      ≡ (goal.Handler-dyn g l.initial.h.now).notes l.initial.h.now.1 ++ take l._told (map (note l.thread l.taken.set l.o) l.taken.passed);
  left : l.left ≡ drop l._told l.taken.passed;
}
