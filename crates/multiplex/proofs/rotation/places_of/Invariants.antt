-- among the places so far those of lower groups are below the first one, and those of higher ones from the end on
use Rattle.std.proofs.Common.{ℕ, ◌<◌, ◌≤◌, get_or}
use Rattle.multiplex.proofs.rotation.places_of.Given as goal

abbrev pub invariant-loop-i : goal.invariant-loop-i
invariant-loop-i l = record {
  rises : l.places.first ≤ l.places.end;
  within : l.places.end ≤ l.i;
  lower : (k : ℕ) → k < l.places.first → get_or l.numbers k 0 < l.group;
  upper : (k : ℕ) → k < l.places.end → get_or l.numbers k 0 ≤ l.group;
  from : (k : ℕ) → l.places.first ≤ k → k < l.i → l.group ≤ get_or l.numbers k 0;
  above : (k : ℕ) → l.places.end ≤ k → k < l.i → l.group < get_or l.numbers k 0;
}
