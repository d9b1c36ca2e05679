use Rattle.name_encoder.proofs.Words.{◌∙◌, rules, tests, string_bytes, str_eq_ignore_ascii_case, YieldsList-from_slice, position_from_yields_List}
use Rattle.name_encoder.proofs.Words.{position_from-zero, mask_text, UmaskRow, position_from-map}
use Rattle.name_encoder.proofs.attribute.mask_row.Goals as goal

pub returns : goal.returns
returns c =
    position_from_yields_List (λ x. str_eq_ignore_ascii_case (string_bytes x.name) c.args.name.now) _ _ _ c.position.ensures.ran
    (YieldsList-from_slice c.args.masks.now cc) (λ x b q k. search (rules, tests))
    ∙ position_from-zero (λ (x : UmaskRow). str_eq_ignore_ascii_case (string_bytes x.name) c.args.name.now) c.args.masks.now
    ∙ position_from-map (λ m. str_eq_ignore_ascii_case m.name c.args.name.now) mask_text 0 c.args.masks.now
