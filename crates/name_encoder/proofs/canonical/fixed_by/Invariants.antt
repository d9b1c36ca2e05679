use Rattle.name_encoder.proofs.Words.{◌≡◌, drop, map, mask_text, flags_in}
use Rattle.name_encoder.specs.Names as Names
use Rattle.name_encoder.proofs.canonical.fixed_by.Given as goal

abbrev pub invariant-loop-m : goal.invariant-loop-m
invariant-loop-m l =
    Names.fixed_of Names.none_fixed (flags_in l.bits (map mask_text l.masks)) (map mask_text l.masks)
    ≡ Names.fixed_of l.fixed (flags_in l.left (map mask_text (drop l.m-index l.masks))) (map mask_text (drop l.m-index l.masks))
