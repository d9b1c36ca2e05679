use Rattle.name_encoder.proofs.Words.{◌≡◌, drop, map, mask_text}
use Rattle.name_encoder.specs.Names as Names
use Rattle.name_encoder.proofs.fixed.common_of.Given as goal

abbrev pub invariant-loop-i : goal.invariant-loop-i
invariant-loop-i l = Names.common_of l.allowed l.flags (map mask_text l.masks) ≡ Names.common_of l.common (drop l.i l.flags) (map mask_text (drop l.i l.masks))
