-- those that are left are all taken if all are
use Rattle.thread_core.proofs.Words.{list_all, is_some, slot_faces, drop, ◌≡◌}
use Rattle.thread_core.proofs.refusal.all_taken.Given as goal

abbrev pub invariant-loop-place : goal.invariant-loop-place
invariant-loop-place l = list_all (λ place. is_some place) (slot_faces (drop l.place-index l.slots)) ≡ list_all (λ place. is_some place) (slot_faces l.slots)
