use Rattle.soak_input.proofs.Words.{◌≡◌, ◌++◌, string_bytes, flat_map, range_with_len, by_thread, round}
use Rattle.soak_input.proofs.script.push_rounds.Given as goal

abbrev pub invariant-loop-round : goal.invariant-loop-round
invariant-loop-round l = string_bytes l.text ≡ string_bytes l.initial.text ++ flat_map (λ _. by_thread round) (range_with_len 0 l._round)
