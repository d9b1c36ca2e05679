use Rattle.thread_registry.proofs.Words.{◌≡◌, take, load_of}
use Rattle.thread_registry.proofs.load.load_of.Given as goal

abbrev pub invariant-loop-call : goal.invariant-loop-call
invariant-loop-call l = l.load ≡ load_of (take l.call-index l.calls)
