use Rattle.event_tables.proofs.Words.{◌∙◌, rules, tests, ◌||◌, ◌==◌, YieldsList-from_slice_split, all_from_yields_List, slice_split, is_empty}
use Rattle.event_tables.proofs.Words.{is_name, words_of}
use Rattle.event_tables.proofs.Searches.{all-filled}
use Rattle.event_tables.proofs.row.are_all_names.Goals as goal

pub returns : goal.returns
unfolding words_of
returns c =
    all_from_yields_List (λ w. is_empty w || is_name w) _ _ _ c.all.ensures.ran
    (YieldsList-from_slice_split _ (λ b. b == 32) c.args.bytes.now c.split.ensures.rest c.split.ensures.done c.split.ensures.closure (λ x b q k. search (rules, tests)))
    (λ x b q k. search (rules, tests))
    ∙ all-filled is_empty is_name (slice_split (λ b. b == 32) c.args.bytes.now)
