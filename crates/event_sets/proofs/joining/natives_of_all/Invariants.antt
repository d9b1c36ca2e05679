-- those so far, with the native events of the events that are left, are all
use Rattle.event_sets.proofs.Words.{◌≡◌, drop, natives_after, natives_of}
use Rattle.event_sets.proofs.joining.natives_of_all.Given as goal

abbrev pub invariant-loop-i : goal.invariant-loop-i
invariant-loop-i l = natives_after l.book l.natives (drop l.i l.events) ≡ natives_of l.book l.events
