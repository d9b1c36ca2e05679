use Rattle.thread_slots.proofs.Words.{◌≡◌, ◌≤◌, replicate, vec_capacity, vec_len, None, MOST_SETS}
use Rattle.thread_slots.proofs.slot.empty_places.Given as goal

abbrev pub invariant-loop : goal.invariant-loop
invariant-loop l = record {
  items : l.slots.items ≡ replicate l.counter None;
  len : vec_len l.slots ≡ l.counter;
  room : MOST_SETS ≤ vec_capacity l.slots;
}
