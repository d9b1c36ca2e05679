use Rattle.name_encoder.proofs.Words.{◌≡◌, drop, map, mask_text}
use Rattle.name_encoder.specs.Names as Names
use Rattle.name_encoder.proofs.fixed.fixed_of.Given as goal

abbrev pub invariant-loop-i : goal.invariant-loop-i
invariant-loop-i l = Names.fixed_of Names.none_fixed l.flags (map mask_text l.masks) ≡ Names.fixed_of l.fixed (drop l.i l.flags) (map mask_text (drop l.i l.masks))
