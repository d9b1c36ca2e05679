use Rattle.name_encoder.proofs.Words.{◌≡◌, ◌≤◌, length, drop, bits_of}
use Rattle.name_encoder.proofs.native.mask_bits.Given as goal

abbrev pub invariant-loop-i : goal.invariant-loop-i
invariant-loop-i l = record { inside : l.i ≤ length l.flags; bits : l.bits ≡ bits_of (drop l.i l.flags) }

abbrev pub decreases-loop-i : goal.decreases-loop-i
decreases-loop-i l = l.i
