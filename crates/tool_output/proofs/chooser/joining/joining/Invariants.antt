-- what is left joins those so far as all join the first ones
use Rattle.tool_output.proofs.Words.{◌≡◌, ◌≤◌, ◌++◌, drop, length, joined_by}
use Rattle.tool_output.proofs.chooser.joining.joining.Given as goal

abbrev pub invariant-loop-i : goal.invariant-loop-i
invariant-loop-i l = record {
  few : length l.further ≤ l.i;
  rest : joined_by (l.natives ++ l.further) (drop l.i l.more) ≡ joined_by l.natives l.more;
}
