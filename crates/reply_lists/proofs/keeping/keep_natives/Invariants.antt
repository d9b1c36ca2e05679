use Rattle.std.proofs.Common.{◌≡◌, ◌++◌, map, take}
use Rattle.papi_base.specs.declared.native.EventRef.TheVariants as event
use Rattle.reply_lists.proofs.keeping.keep_natives.Given as goal

abbrev pub invariant-loop-i : goal.invariant-loop-i
invariant-loop-i l = l.all ≡ l.initial.all ++ map (λ n. event.Native n) (take l.i l.natives)
