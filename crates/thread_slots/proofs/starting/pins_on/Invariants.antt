use Rattle.thread_slots.proofs.Words.{◌≡◌, ◌++◌, drop, length, pins_from}
use Rattle.thread_slots.proofs.starting.pins_on.Given as goal

abbrev pub invariant-loop-i : goal.invariant-loop-i
invariant-loop-i l = record {
  so_far : length l.pins ≡ l.i;
  done : l.pins ++ pins_from l.book l.set.rest (drop l.i l.set.natives) (drop l.i l.counters) ≡ pins_from l.book l.set.rest l.set.natives l.counters;
}
