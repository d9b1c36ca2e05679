use Rattle.event_tables.proofs.Words.{◌∙◌, rules, tests, ◌==◌, not, YieldsList-from_slice_split, any_from_yields_List, is_empty}
use Rattle.event_tables.proofs.Searches.{has_word-filled}
use Rattle.event_tables.proofs.row.has_word.Goals as goal

pub returns : goal.returns
returns c =
    any_from_yields_List (λ w. not (is_empty w)) _ _ _ c.any.ensures.ran
    (YieldsList-from_slice_split _ (λ b. b == 32) c.args.bytes.now c.split.ensures.rest c.split.ensures.done c.split.ensures.closure (λ x b q k. search (rules, tests)))
    (λ x b q k. search (rules, tests))
    ∙ has_word-filled c.args.bytes.now
