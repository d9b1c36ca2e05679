-- those that are left have it if all do
use Rattle.event_sets.proofs.Words.{◌≡◌, drop, list_any, same_native}
use Rattle.event_sets.proofs.sameness.has_native.Given as goal

abbrev pub invariant-loop-i : goal.invariant-loop-i
invariant-loop-i l = list_any (same_native l.n) (drop l.i l.natives) ≡ list_any (same_native l.n) l.natives
