-- it is among those that are left if it is in the list, and its place is the first one there
use Rattle.event_sets.proofs.Words.{◌≡◌, ◌+◌, drop, list_any, position_or_len, same_event}
use Rattle.event_sets.proofs.sameness.place_of.Given as goal

abbrev pub invariant-loop-i : goal.invariant-loop-i
invariant-loop-i l = record {
  there : list_any (same_event l.e) (drop l.i l.events) ≡ list_any (same_event l.e) l.events;
  first : l.i + position_or_len (same_event l.e) (drop l.i l.events) ≡ position_or_len (same_event l.e) l.events;
}
