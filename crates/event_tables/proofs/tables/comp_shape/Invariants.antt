use Rattle.event_tables.proofs.Words.{◌≡◌, map, take, counter_text}
use Rattle.event_tables.proofs.tables.comp_shape.Given as goal

abbrev pub invariant-loop-k : goal.invariant-loop-k
invariant-loop-k l = l.shape ≡ map (λ k. k.width) (map counter_text (take l.k-index l.counters))
