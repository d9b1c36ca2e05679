use Rattle.thread_slots.proofs.Words.{◌≡◌, ◌++◌, drop, length, pin_numbers}
use Rattle.thread_slots.proofs.measuring.numbers_on_unit.Given as goal

abbrev pub invariant-loop-i : goal.invariant-loop-i
invariant-loop-i l = record {
  so_far : length l.numbers ≡ l.i;
  done : l.numbers ++ pin_numbers l.unit (drop l.i l.pins) ≡ pin_numbers l.unit l.pins;
}
