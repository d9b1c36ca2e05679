use Rattle.thread_slots.proofs.Words.{◌≡◌, ◌+◌, ◌++◌, length, map, drop, position_or_len, same_native}
use Rattle.thread_slots.proofs.event_places.EventPlaces.push_all.Given as goal

abbrev pub invariant-loop-i : goal.invariant-loop-i
invariant-loop-i l = record {
  so_far : length l.self ≡ length l.fn.self + l.i;
  done : l.self ++ map (λ n. position_or_len (same_native n) l.natives) (drop l.i l.own) ≡ l.fn.self ++ map (λ n. position_or_len (same_native n) l.natives) l.own;
}
