use Rattle.thread_slots.proofs.Words.{◌≡◌, ◌+◌, drop, position_or_len, same_native}
use Rattle.thread_slots.proofs.places.place_from.Given as goal

abbrev pub invariant-loop-i : goal.invariant-loop-i
invariant-loop-i l = l.i + position_or_len (same_native l.n) (drop l.i l.natives) ≡ l.from + position_or_len (same_native l.n) (drop l.from l.natives)
