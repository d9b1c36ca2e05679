use Rattle.thread_slots.proofs.Words.{◌≡◌, ◌+◌, drop, free}
use Rattle.thread_slots.proofs.slot.free_number.Given as goal

abbrev pub invariant-loop-place : goal.invariant-loop-place
invariant-loop-place l = record {
  count : l.number ≡ l.place-index;
  rest : l.number + free (drop l.place-index l.slots) ≡ free l.slots;
}
