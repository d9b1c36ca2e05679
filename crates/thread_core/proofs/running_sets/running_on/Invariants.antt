use Rattle.thread_core.proofs.Words.{owner_from, map, option_map, face_of_slot, drop, ◌≡◌}
use Rattle.thread_core.proofs.running_sets.running_on.Given as goal

abbrev pub invariant-loop-number : goal.invariant-loop-number
invariant-loop-number l = owner_from l.comp l.number (map (option_map face_of_slot) (drop l.number l.slots.items)) ≡ owner_from l.comp 0 (map (option_map face_of_slot) l.slots.items)
