use Rattle.std.proofs.Common.{◌≡◌, take, drop, length}
use Rattle.reply_lists.proofs.reading.items_of.Given as goal

abbrev pub invariant-loop-i : goal.invariant-loop-i
invariant-loop-i g l =
    record {
      len : length l.items ≡ l.i;
      items : l.items ≡ take l.i (drop l.span.from l.all);
    }
