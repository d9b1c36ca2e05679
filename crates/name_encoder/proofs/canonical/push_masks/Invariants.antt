use Rattle.name_encoder.proofs.Words.{◌≡◌, ◌++◌, drop, map, string_bytes, mask_text, masks_text}
use Rattle.name_encoder.proofs.canonical.push_masks.Given as goal

abbrev pub invariant-loop-m : goal.invariant-loop-m
invariant-loop-m l =
    string_bytes l.fn.name ++ masks_text l.bits (map mask_text l.masks)
    ≡ string_bytes l.name ++ masks_text l.left (map mask_text (drop l.m-index l.masks))
