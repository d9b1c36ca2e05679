-- what is left joins those so far as all join the first ones
use Rattle.event_sets.proofs.Words.{◌≡◌, ◌≤◌, drop, length, joined_by}
use Rattle.event_sets.proofs.joining.joined.Given as goal

abbrev pub invariant-loop-i : goal.invariant-loop-i
invariant-loop-i l = record {
  few : length l.all ≤ 32;
  rest : joined_by l.all (drop l.i l.more) ≡ joined_by l.natives l.more;
}
