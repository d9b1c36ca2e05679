use Rattle.std.proofs.Common.{◌≡◌, map, take, drop, length}
use Rattle.reply_lists.specs.Bodies.{native_in}
use Rattle.reply_lists.proofs.reading.natives_of.Given as goal

abbrev pub invariant-loop-i : goal.invariant-loop-i
invariant-loop-i l =
    record {
      len : length l.natives ≡ l.i;
      natives : l.natives ≡ map native_in (take l.i (drop l.span.from l.all));
    }
