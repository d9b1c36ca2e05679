use Rattle.tool_output.proofs.Words.{◌≡◌, length, take, masks_of}
use Rattle.tool_output.proofs.chooser.joining.masks.Given as goal

abbrev pub invariant-loop-i : goal.invariant-loop-i
invariant-loop-i l = record {
  long : length l.masks ≡ 32;
  so_far : take l.i l.masks ≡ masks_of (take l.i l.natives);
}
