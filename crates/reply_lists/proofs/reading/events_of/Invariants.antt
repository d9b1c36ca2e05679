use Rattle.std.proofs.Common.{◌≡◌, take, drop, length}
use Rattle.reply_lists.proofs.reading.events_of.Given as goal

abbrev pub invariant-loop-i : goal.invariant-loop-i
invariant-loop-i l =
    record {
      len : length l.events ≡ l.i;
      events : l.events ≡ take l.i (drop l.span.from l.all);
    }
