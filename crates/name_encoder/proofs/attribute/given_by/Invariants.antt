use Rattle.name_encoder.proofs.Words.{◌≡◌, length, map, mask_text, all_given, nothing, saids_of, between_colons, text_of}
use Rattle.name_encoder.proofs.attribute.given_by.Given as goal

abbrev pub invariant-loop-rest : goal.invariant-loop-rest
invariant-loop-rest l =
    all_given (map mask_text l.masks) nothing (saids_of (map mask_text l.masks) (between_colons (text_of l.attributes)))
    ≡ all_given (map mask_text l.masks) l.given (saids_of (map mask_text l.masks) (between_colons (text_of l.rest)))

abbrev pub decreases-loop-rest : goal.decreases-loop-rest
decreases-loop-rest l = length (between_colons (text_of l.rest))
