use Rattle.counter_unit.proofs.Tables.{Marking}
use Rattle.counter_unit.proofs.selects.mark.Given as goal

abbrev pub invariant-loop-code : goal.invariant-loop-code
invariant-loop-code l = Marking l.key l.c l.place l.fn.masks l.masks l.code
