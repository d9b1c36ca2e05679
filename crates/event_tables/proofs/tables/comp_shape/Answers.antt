use Rattle.event_tables.proofs.Words.{subst, sym, IsCounter, counter_text, Counter}
use Rattle.event_tables.proofs.Items.{all-get}
use Rattle.event_tables.proofs.tables.comp_shape.Goals as goal

pub push-requires-clause-low : goal.push-requires-clause-low
push-requires-clause-low c =
    let k = subst (λ (x : Counter). IsCounter (counter_text x)) (sym c.k-item.is)
    (all-get IsCounter counter_text c.args.counters.now c.loop-k.k-index c.k-item.result c.requires.counters c.loop-k-test.true) in
    k.narrow

pub push-requires-clause-high : goal.push-requires-clause-high
push-requires-clause-high c =
    let k = subst (λ (x : Counter). IsCounter (counter_text x)) (sym c.k-item.is)
    (all-get IsCounter counter_text c.args.counters.now c.loop-k.k-index c.k-item.result c.requires.counters c.loop-k-test.true) in
    k.wide
