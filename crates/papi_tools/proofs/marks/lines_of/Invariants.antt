use Rattle.papi_tools.proofs.Words.{◌≡◌, ◌++◌, drop, mark_lines}
use Rattle.papi_tools.proofs.marks.lines_of.Given as goal

abbrev pub invariant-loop-t : goal.invariant-loop-t
invariant-loop-t l = mark_lines 0 l.marks ≡ l.lines ++ mark_lines l.t (drop l.t l.marks)
