use Rattle.std.proofs.Common.{◌≡◌, drop, length, take}
use Rattle.papi_c.proofs.values.give.Given as goal

abbrev pub invariant-loop-i : goal.invariant-loop-i
invariant-loop-i l = record {
  size : length l.out ≡ length l.initial.out;
  written : take l.i l.out ≡ take l.i l.values;
  rest : drop l.i l.out ≡ drop l.i l.initial.out;
}
