-- the notes so far, with those that are left, are all
use Rattle.std.proofs.Common.{◌≡◌, ◌++◌, drop}
use Rattle.overflow_dispatch.proofs.since.add_from.Given as goal

abbrev pub invariant-loop-i : goal.invariant-loop-i
invariant-loop-i g l =
    let told = (goal.Handler-dyn g (l.handler.vtable, l.handler.value)).notes l.handler.value in
    l.all.items ++ drop l.i told ≡ l.initial.all.items ++ drop l.from told
