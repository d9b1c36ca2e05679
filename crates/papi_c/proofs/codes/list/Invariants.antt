use Rattle.std.proofs.Common.{◌≡◌, drop, length, take}
use Rattle.papi_c.specs.Placed.{codes_of}
use Rattle.papi_c.proofs.codes.list.Given as goal

abbrev pub invariant-loop-i : goal.invariant-loop-i
invariant-loop-i l = record {
  size : length l.out ≡ length l.initial.out;
  written : take l.i l.out ≡ codes_of l.library (take l.i l.events);
  rest : drop l.i l.out ≡ drop l.i l.initial.out;
}
