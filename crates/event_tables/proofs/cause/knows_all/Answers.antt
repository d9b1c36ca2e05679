use Rattle.event_tables.proofs.Words.{◌∙◌, map, rules, tests, ◌||◌, ◌==◌, is_some, YieldsList-from_slice_split, all_from_yields_List, slice_split}
use Rattle.event_tables.proofs.Words.{is_empty, words_of, counter_place, counter_text}
use Rattle.event_tables.proofs.Searches.{all-filled}
use Rattle.event_tables.proofs.cause.knows_all.Goals as goal

pub returns : goal.returns
unfolding words_of
returns c =
    all_from_yields_List (λ n. is_empty n || is_some (counter_place (map counter_text c.args.counters.now) n)) _ _ _ c.all.ensures.ran
    (YieldsList-from_slice_split _ (λ b. b == 32) c.args.names.now c.split.ensures.rest c.split.ensures.done c.split.ensures.closure (λ x b q k. search (rules, tests)))
    (λ x b q k. search (rules, tests))
    ∙ all-filled is_empty (λ n. is_some (counter_place (map counter_text c.args.counters.now) n)) (slice_split (λ b. b == 32) c.args.names.now)
