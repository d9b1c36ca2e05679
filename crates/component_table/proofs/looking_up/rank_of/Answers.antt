use Rattle.component_table.proofs.Words.{◌∙◌, rules, tests, bytes_eq, YieldsList-from_slice, position_from_yields_List, Text, position-map}
use Rattle.std.specs.Prelude.{string_bytes}
use Rattle.component_table.proofs.looking_up.rank_of.Goals as goal

pub returns-clause-rank : goal.returns-clause-rank
returns-clause-rank c =
    position_from_yields_List (λ x. bytes_eq c.args.text.now (string_bytes x)) _ _ _ c.position.ensures.ran (YieldsList-from_slice c.args.names.now cc) (λ x b q k. search (rules, tests))
    ∙ position-map string_bytes (λ (n : Text). bytes_eq c.args.text.now n) c.args.names.now
