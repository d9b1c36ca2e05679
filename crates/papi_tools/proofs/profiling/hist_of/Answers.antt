use Rattle.std.proofs.Common.{arith}
use Rattle.papi_tools.proofs.ProfilLemmas.{of_handler, of_none}
use Rattle.papi_tools.proofs.profiling.hist_of.Goals as goal
use Rattle.papi_tools.proofs.profiling.hist_of.Goals.{then-thread-len+in_ok-add_notes, else-thread-len}

pub returns-clause-counts : goal.returns-clause-counts
returns-clause-counts g c =
    let handlers = c.args.handlers.now.items in
    let thread = c.args.words.now.thread in
    elim c.if-thread-len.branch [
      | then-thread-len+in_ok-add_notes w ↦
          rw w.hist-is
          (of_handler _ handlers c.args.noted.now thread w.index.result.now _ _ _ (omega (arith, w.if-thread-len.true, c.len.ensures)) w.index.ensures w.in_ok-add_notes.ensures.counts)
      | else-thread-len w ↦ rw w.hist-is (of_none _ handlers c.args.noted.now thread _ _ _ (omega (arith, w.if-thread-len.false, c.len.ensures)) c.in_ok-hist.ensures.empty)
    ]
