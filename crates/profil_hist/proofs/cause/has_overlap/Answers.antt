use Rattle.profil_hist.proofs.Words.{◌∙◌, rules, tests, YieldsList-from_slice, any_from_yields_List, list_any-map, overlaps, range_text}
use Rattle.profil_hist.proofs.cause.has_overlap.Goals as goal

pub returns : goal.returns
returns c =
    any_from_yields_List (λ x. overlaps (range_text x) (range_text c.args.range.now)) _ _ _ c.any.ensures.ran (YieldsList-from_slice c.args.above.now cc) (λ x b q k. search (rules, tests))
    ∙ list_any-map (λ k. overlaps k (range_text c.args.range.now)) range_text c.args.above.now
