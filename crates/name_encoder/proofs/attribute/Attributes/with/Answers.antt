use Rattle.name_encoder.proofs.Words.{◌≡◌, ◌∙◌, Some, map, option_map, sym, ap, arith, length-map, mask_text, meaning_text}
use Rattle.std.specs.Prelude.{Option}
use Rattle.name_encoder.specs.declared.attribute.Meaning.{Meaning}
use Rattle.name_encoder.proofs.Steps.{meaning-row}
use Rattle.name_encoder.proofs.attribute.Attributes.with.Goals as goal

pub with_mask-requires-clause-there : goal.with_mask-requires-clause-there
with_mask-requires-clause-there c =
    let is : c.meaning_of.result ≡ Some (_) = c.in-Some-Mask.is ∙ ap (λ (m : Meaning). Some m) c.in-Some-Mask.field-0-is in
    let named = sym c.meaning_of.ensures ∙ ap (λ (o : Option Meaning). option_map meaning_text o) is in
    let lt = meaning-row (map mask_text c.args.masks.now) c.name_and_value.result.0.now c.in-Some-Mask.row named in
    omega (arith, lt, length-map c.args.masks.now mask_text)
