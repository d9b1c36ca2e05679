use Rattle.std.proofs.Common.{◌≡◌, ◌++◌, take}
use Rattle.reply_lists.proofs.keeping.keep_events.Given as goal

abbrev pub invariant-loop-i : goal.invariant-loop-i
invariant-loop-i l = l.all ≡ l.initial.all ++ take l.i l.events
