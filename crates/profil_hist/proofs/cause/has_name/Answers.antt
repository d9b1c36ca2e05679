use Rattle.profil_hist.proofs.Words.{◌∙◌, rules, tests, YieldsList-from_slice, any_from_yields_List, bytes_eq, list_any-map, range_text}
use Rattle.std.specs.Prelude.{string_bytes}
use Rattle.profil_hist.proofs.cause.has_name.Goals as goal

pub returns : goal.returns
returns c =
    any_from_yields_List (λ x. bytes_eq (string_bytes x.name) c.args.name.now) _ _ _ c.any.ensures.ran (YieldsList-from_slice c.args.above.now cc) (λ x b q k. search (rules, tests))
    ∙ list_any-map (λ k. bytes_eq k.name c.args.name.now) range_text c.args.above.now
