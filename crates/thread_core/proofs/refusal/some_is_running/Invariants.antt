-- those that are left have one that runs if all do
use Rattle.thread_core.proofs.Words.{list_any, slot_faces, drop, ◌≡◌, is_running}
use Rattle.thread_core.proofs.refusal.some_is_running.Given as goal

abbrev pub invariant-loop-place : goal.invariant-loop-place
invariant-loop-place l = list_any is_running (slot_faces (drop l.place-index l.slots)) ≡ list_any is_running (slot_faces l.slots)
