-- the notes of the event among those so far
use Rattle.papi_tools.proofs.ProfilLemmas.{Counts}
use Rattle.papi_tools.proofs.profiling.add_notes.Given as goal

abbrev pub invariant-loop-i : goal.invariant-loop-i
invariant-loop-i g l =
    let told = (goal.Handler-dyn g (l.handler.vtable, l.handler.value)).notes l.handler.value in
    Counts l.hist l.initial.hist.map l.set l.index l.from l.i told
