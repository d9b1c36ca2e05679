use Rattle.std.proofs.Common.{◌≡◌}
use Rattle.papi_c.proofs.HandedInOrder.{Handed}
use Rattle.papi_c.proofs.happening.happen_in_order.Given as goal

abbrev pub invariant-loop-i : goal.invariant-loop-i
invariant-loop-i l = record {
  so_far : Handed l.initial.library l.library l.initial.what l.what l.i l.initial.out;
  out : l.out ≡ l.initial.out;
}
