use Rattle.std.proofs.Common.{◌≡◌, drop, length, map, take}
use Rattle.papi_c.specs.Runs.{passing_of}
use Rattle.papi_c.proofs.running.tell.Given as goal

abbrev pub invariant-loop-i : goal.invariant-loop-i
invariant-loop-i l = record {
  size : length l.out ≡ length l.initial.out;
  written : take l.i l.out ≡ map passing_of (take l.i l.notes);
  rest : drop l.count l.out ≡ drop l.count l.initial.out;
}
