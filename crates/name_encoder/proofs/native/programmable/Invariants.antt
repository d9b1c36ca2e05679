use Rattle.name_encoder.proofs.Words.{◌≡◌, ◌≤◌, length, drop, map, counter_text, programmable}
use Rattle.name_encoder.proofs.native.programmable.Given as goal

abbrev pub invariant-loop-i : goal.invariant-loop-i
invariant-loop-i l = record { inside : l.i ≤ length l.counters; bits : l.bits ≡ programmable (map counter_text (drop l.i l.counters)) }

abbrev pub decreases-loop-i : goal.decreases-loop-i
decreases-loop-i l = l.i
