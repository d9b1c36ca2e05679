use Rattle.event_tables.proofs.Words.{◌∙◌, rules, tests, string_bytes, YieldsList-from_slice, position_from_yields_List, position_from-zero, bytes_eq}
use Rattle.event_tables.proofs.Words.{Counter, counter_text}
use Rattle.event_tables.proofs.Searches.{position_from-map}
use Rattle.event_tables.proofs.counter_bits.counter_place.Goals as goal

pub returns : goal.returns
returns c =
    position_from_yields_List (λ x. bytes_eq (string_bytes x.name) c.args.name.now) _ _ _ c.position.ensures.ran (YieldsList-from_slice c.args.counters.now cc) (λ x b q k. search (rules, tests))
    ∙ position_from-zero (λ (x : Counter). bytes_eq (string_bytes x.name) c.args.name.now) c.args.counters.now
    ∙ position_from-map (λ k. bytes_eq k.name c.args.name.now) counter_text 0 c.args.counters.now
