use Rattle.name_encoder.proofs.Words.{◌≡◌, ◌≤◌, length, drop, map, mask_text, values_of}
use Rattle.name_encoder.proofs.native.umask_of.Given as goal

abbrev pub invariant-loop-i : goal.invariant-loop-i
invariant-loop-i l = record { inside : l.i ≤ length l.masks; values : l.umask ≡ values_of (drop l.i l.flags) (map mask_text (drop l.i l.masks)) }

abbrev pub decreases-loop-i : goal.decreases-loop-i
decreases-loop-i l = l.i
