use Rattle.std.proofs.Common.{◌≡◌, ◌++◌, take, drop}
use Rattle.thread_slots.proofs.Beginning.{all_armed, none_armed}
use Rattle.thread_slots.proofs.starting.armed_on.Given as goal

abbrev pub invariant-loop-i : goal.invariant-loop-i
invariant-loop-i l = l.armed ≡ take l.i (all_armed l.book l.set.natives l.counters l.set.rest.events l.set.rest.thresholds) ++ drop l.i none_armed
