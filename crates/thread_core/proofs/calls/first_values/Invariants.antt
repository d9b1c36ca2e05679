use Rattle.std.proofs.Common.{◌≡◌, take, length}
use Rattle.thread_core.proofs.calls.first_values.Given as goal

abbrev pub invariant-loop-i : goal.invariant-loop-i
invariant-loop-i l =
    record {
      len : length l.values ≡ l.i;
      values : l.values ≡ take l.i l.all;
    }
