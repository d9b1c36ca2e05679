use Rattle.event_tables.proofs.Words.{◌∙◌, rules, tests, ◌||◌, string_bytes, YieldsList-from_slice, any_from_yields_List, list_any-map, same_name}
use Rattle.event_tables.proofs.Words.{component_text}
use Rattle.event_tables.proofs.cause.has_component.Goals as goal

pub returns : goal.returns
returns c =
    any_from_yields_List (λ x. same_name (string_bytes x.name) c.args.name.now || same_name (string_bytes x.pmu) c.args.pmu.now) _ _ _ c.any.ensures.ran
    (YieldsList-from_slice c.args.above.now cc) (λ x b q k. search (rules, tests))
    ∙ list_any-map (λ k. same_name k.name c.args.name.now || same_name k.pmu c.args.pmu.now) component_text c.args.above.now
