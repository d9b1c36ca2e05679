use Rattle.thread_slots.proofs.Keyed.{FirstTo}
use Rattle.thread_slots.proofs.places.FirstPlaces.of.Given as goal

abbrev pub invariant-loop-i : goal.invariant-loop-i
invariant-loop-i l = FirstTo l.first l.natives l.i
