use Rattle.thread_slots.proofs.Words.{◌≡◌, ◌≤◌, length, map, drop, take, event_value, number_in, places_of, numbers_at}
use Rattle.thread_slots.proofs.values.write_values.Given as goal

abbrev pub invariant-loop-i : goal.invariant-loop-i
invariant-loop-i l = record {
  long : length l.out ≡ length l.initial.out;
  inside : l.at ≤ length l.places;
  rest : drop l.at l.places ≡ places_of l.book l.set.natives (drop l.i l.events);
  written : take l.i l.out ≡ take l.i (map (event_value l.book (number_in l.set.natives (numbers_at l.numbers))) l.events);
  after : drop l.i l.out ≡ drop l.i l.initial.out;
}
