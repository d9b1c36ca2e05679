use Rattle.counter_unit.proofs.Places.{Filling}
use Rattle.counter_unit.proofs.unit.Unit.new.Given as goal

abbrev pub invariant-loop-c : goal.invariant-loop-c
invariant-loop-c l = Filling l.shape l.rooms l.c
