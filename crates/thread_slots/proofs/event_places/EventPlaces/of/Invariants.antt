use Rattle.thread_slots.proofs.Words.{◌≡◌, ◌≤◌, ◌++◌, length, drop, ◌*◌, places_of}
use Rattle.thread_slots.proofs.event_places.EventPlaces.of.Given as goal

abbrev pub invariant-loop-i : goal.invariant-loop-i
invariant-loop-i l = record {
  few : length l.places ≤ 8 * l.i;
  done : l.places ++ places_of l.book l.natives (drop l.i l.events) ≡ places_of l.book l.natives l.events;
}
