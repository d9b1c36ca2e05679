use Rattle.event_tables.proofs.Words.{◌∙◌, map, rules, tests, ◌==◌, if◌then◌else◌, bit_or, fold_from_yields_List, YieldsList-from_slice_split}
use Rattle.event_tables.proofs.Words.{slice_split, is_empty, words_of, counter_place, place_bit, counter_text}
use Rattle.event_tables.proofs.Bits.{fold-filled}
use Rattle.event_tables.proofs.counter_bits.bits_of.Goals as goal

pub returns : goal.returns
unfolding words_of
returns c =
    fold_from_yields_List _ (λ bits n. bit_or bits (if is_empty n then 0 else place_bit (counter_place (map counter_text c.args.counters.now) n))) 0 _ c.fold.ensures.ran
    (YieldsList-from_slice_split _ (λ b. b == 32) c.args.names.now c.split.ensures.rest c.split.ensures.done c.split.ensures.closure (λ x b q k. search (rules, tests)))
    (λ a x b q k. search (rules, tests))
    ∙ fold-filled is_empty (λ n. place_bit (counter_place (map counter_text c.args.counters.now) n)) 0 (slice_split (λ b. b == 32) c.args.names.now)
