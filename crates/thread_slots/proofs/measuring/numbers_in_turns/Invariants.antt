use Rattle.thread_slots.proofs.Words.{◌≡◌, ◌++◌, drop, length, turn_numbers}
use Rattle.thread_slots.proofs.measuring.numbers_in_turns.Given as goal

abbrev pub invariant-loop-i : goal.invariant-loop-i
invariant-loop-i l = record {
  so_far : length l.numbers ≡ l.i;
  done : l.numbers ++ turn_numbers l.rotation.turns l.total (drop l.i l.rotation.numbers) (drop l.i l.counts) ≡ turn_numbers l.rotation.turns l.total l.rotation.numbers l.counts;
}
