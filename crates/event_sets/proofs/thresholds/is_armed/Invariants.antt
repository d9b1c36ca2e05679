-- those that are left have one if all do
use Rattle.event_sets.proofs.Words.{◌≡◌, drop, nat_lt, list_any}
use Rattle.event_sets.proofs.thresholds.is_armed.Given as goal

abbrev pub invariant-loop-i : goal.invariant-loop-i
invariant-loop-i l = list_any (λ t. nat_lt 0 t) (drop l.i l.thresholds) ≡ list_any (λ t. nat_lt 0 t) l.thresholds
