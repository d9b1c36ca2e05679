use Rattle.name_encoder.proofs.Words.{◌≡◌, length, map, take, mask_text, choices}
use Rattle.name_encoder.proofs.native.default_flags.Given as goal

abbrev pub invariant-loop-i : goal.invariant-loop-i
invariant-loop-i l = record { room : length l.flags ≡ 16; set : take l.i l.flags ≡ choices (map mask_text (take l.i l.masks)) }
