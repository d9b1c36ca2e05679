-- the native events so far have counters of their own
use Rattle.tool_output.proofs.Words.{◌≡◌, take, masks_of}
use Rattle.tool_output.proofs.chooser.opening.opened.Given as goal

abbrev pub invariant-loop-i : goal.invariant-loop-i
invariant-loop-i l = record {
  counters : l.matching.counters ≡ l.initial.matching.counters;
  allowed : l.matching.allowed ≡ masks_of (take l.i l.natives);
}
