-- the first of those that are left is the first of all
use Rattle.event_sets.proofs.Words.{◌≡◌, ◌==◌, drop, find}
use Rattle.event_sets.proofs.clashes.without_counter.Given as goal

abbrev pub invariant-loop-i : goal.invariant-loop-i
invariant-loop-i l = find (λ n. n.allowed == 0) (drop l.i l.natives) ≡ find (λ n. n.allowed == 0) (drop l.from l.natives)
