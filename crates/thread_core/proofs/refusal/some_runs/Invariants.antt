-- those that are left have one that runs if all do
use Rattle.thread_core.proofs.Words.{list_any, runs_on, slot_faces, drop, ◌≡◌}
use Rattle.thread_core.proofs.refusal.some_runs.Given as goal

abbrev pub invariant-loop-place : goal.invariant-loop-place
invariant-loop-place l = list_any (runs_on l.component) (slot_faces (drop l.place-index l.slots)) ≡ list_any (runs_on l.component) (slot_faces l.slots)
