use Rattle.thread_registry.proofs.Words.{◌≡◌, take, marks_in}
use Rattle.thread_registry.proofs.runner.marks.marks_of.Given as goal

abbrev pub invariant-loop-i : goal.invariant-loop-i
invariant-loop-i l = l.marks ≡ marks_in (take l.i l.lines)
