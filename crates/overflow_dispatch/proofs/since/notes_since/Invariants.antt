-- the notes so far, with those that are left, are all
use Rattle.std.proofs.Common.{◌≡◌, ◌++◌, drop, map}
use Rattle.overflow_dispatch.specs.Notes.{told_since}
use Rattle.overflow_dispatch.proofs.since.notes_since.Given as goal

abbrev pub invariant-loop-i : goal.invariant-loop-i
invariant-loop-i g l =
    let told = map (λ b. (goal.Handler-dyn g (b.vtable, b.value)).notes b.value) l.handlers.items in
    l.all.items ++ told_since (drop l.i l.counts) (drop l.i told) ≡ told_since l.counts told
