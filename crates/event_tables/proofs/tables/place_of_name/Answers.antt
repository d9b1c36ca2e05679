use Rattle.event_tables.proofs.Words.{◌∙◌, rules, tests, string_bytes, YieldsList-from_slice, position_from_yields_List, position_from-zero}
use Rattle.event_tables.proofs.Words.{same_name, Component, component_text}
use Rattle.event_tables.proofs.Searches.{position_from-map}
use Rattle.event_tables.proofs.tables.place_of_name.Goals as goal

pub returns : goal.returns
returns c =
    position_from_yields_List (λ x. same_name (string_bytes x.name) c.args.name.now) _ _ _ c.position.ensures.ran (YieldsList-from_slice c.args.components.now cc) (λ x b q k. search (rules, tests))
    ∙ position_from-zero (λ (x : Component). same_name (string_bytes x.name) c.args.name.now) c.args.components.now
    ∙ position_from-map (λ k. same_name k.name c.args.name.now) component_text 0 c.args.components.now
