use Rattle.thread_slots.proofs.Words.{◌≡◌, ◌≤◌, ◌++◌, length, map, drop, event_value, number_in, places_of, numbers_at}
use Rattle.thread_slots.proofs.values.values_of.Given as goal

abbrev pub invariant-loop-i : goal.invariant-loop-i
invariant-loop-i l = record {
  so_far : length l.into ≡ l.i;
  inside : l.at ≤ length l.places;
  rest : drop l.at l.places ≡ places_of l.book l.set.natives (drop l.i l.events);
  done : l.into ++ map (event_value l.book (number_in l.set.natives (numbers_at l.numbers))) (drop l.i l.events) ≡ map (event_value l.book (number_in l.set.natives (numbers_at l.numbers))) l.events;
}
