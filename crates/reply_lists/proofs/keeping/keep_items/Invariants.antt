use Rattle.std.proofs.Common.{◌≡◌, ◌++◌, take}
use Rattle.reply_lists.proofs.keeping.keep_items.Given as goal

abbrev pub invariant-loop-i : goal.invariant-loop-i
invariant-loop-i g l = l.all.items ≡ l.initial.all.items ++ take l.i l.items
