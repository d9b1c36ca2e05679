use Rattle.event_tables.proofs.Words.{◌∙◌, rules, tests, string_bytes, YieldsList-from_slice, any_from_yields_List, list_any-map, same_name}
use Rattle.event_tables.proofs.Words.{mask_text}
use Rattle.event_tables.proofs.cause.has_mask.Goals as goal

pub returns : goal.returns
returns c =
    any_from_yields_List (λ x. same_name (string_bytes x.name) c.args.name.now) _ _ _ c.any.ensures.ran (YieldsList-from_slice c.args.above.now cc) (λ x b q k. search (rules, tests))
    ∙ list_any-map (λ m. same_name m.name c.args.name.now) mask_text c.args.above.now
