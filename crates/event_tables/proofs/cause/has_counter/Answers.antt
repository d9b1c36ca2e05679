use Rattle.event_tables.proofs.Words.{◌∙◌, rules, tests, string_bytes, YieldsList-from_slice, any_from_yields_List, bytes_eq, list_any-map}
use Rattle.event_tables.proofs.Words.{counter_text}
use Rattle.event_tables.proofs.cause.has_counter.Goals as goal

pub returns : goal.returns
returns c =
    any_from_yields_List (λ x. bytes_eq (string_bytes x.name) c.args.name.now) _ _ _ c.any.ensures.ran (YieldsList-from_slice c.args.above.now cc) (λ x b q k. search (rules, tests))
    ∙ list_any-map (λ k. bytes_eq k.name c.args.name.now) counter_text c.args.above.now
