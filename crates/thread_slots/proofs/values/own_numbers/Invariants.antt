use Rattle.thread_slots.proofs.Words.{◌≡◌, map, take, pos, length, get_or, MOST_NATIVES, numbers_at}
use Rattle.thread_slots.proofs.values.own_numbers.Given as goal

abbrev pub invariant-loop-i : goal.invariant-loop-i
invariant-loop-i l = record {
  long : length l.counts ≡ MOST_NATIVES;
  done : take l.i l.counts ≡ map (λ p. pos (get_or (numbers_at l.numbers) p 0)) (take l.i l.places);
}
