use Rattle.soak_input.proofs.Words.{◌∙◌, ◌++◌, ◌∷◌, ap, rules, w64, to_z-of_z, signed_decimal, string_bytes, item_more}
use Rattle.soak_input.proofs.summary.push_values.Goals as goal

pub loop-i-preserved : goal.loop-i-preserved
loop-i-preserved c =
    item_more (λ value. 32 ∷ signed_decimal value) c.args.values.now c.loop-i.i c.at-value.result _ _ _ c.at-value.ensures.item c.loop-i.invariant
    (c.in_ok-write.ensures.bytes ∙ ap (λ z. string_bytes c.loop-i.text ++ 32 ∷ signed_decimal z) (to_z-of_z w64 c.at-value.result (search rules)))
