use Rattle.event_tables.proofs.Words.{◌∙◌, rules, tests, YieldsList-from_slice, any_from_yields_List, list_any-map, mask_text}
use Rattle.event_tables.proofs.cause.has_default.Goals as goal

pub returns : goal.returns
returns c =
    any_from_yields_List (λ x. x.preset_choice) _ _ _ c.any.ensures.ran (YieldsList-from_slice c.args.above.now cc) (λ x b q k. search (rules, tests))
    ∙ list_any-map (λ m. m.preset_choice) mask_text c.args.above.now
