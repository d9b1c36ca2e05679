use Rattle.preset_csv.proofs.Words.{codes, rules, tests, bytes_eq, YieldsList-from_slice_split, any_from_yields_List, trimmed, has_rate}
use Rattle.std.specs.Prelude.{◌==◌}
use Rattle.preset_csv.proofs.judging.has_rate.Goals as goal

pub returns : goal.returns
unfolding has_rate
returns c =
    any_from_yields_List (λ p. bytes_eq (trimmed p) (codes "#")) _ _ _ c.any.ensures.ran
    (YieldsList-from_slice_split _ (λ b. b == 124) c.args.formula.now c.split.ensures.rest c.split.ensures.done c.split.ensures.closure (λ x b q k. search (rules, tests)))
    (λ x b q k. search (rules, tests))
