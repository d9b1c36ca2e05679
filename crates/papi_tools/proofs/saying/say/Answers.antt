use Rattle.papi_tools.proofs.SayingLemmas.{out_whole, all_said, no_fault}
use Rattle.papi_tools.proofs.saying.say.Goals as goal

pub returns-in-Err-Failed-write_whole-clause-says : goal.returns-in-Err-Failed-write_whole-clause-says
returns-in-Err-Failed-write_whole-clause-says g c =
    out_whole c.args.said.now _ _ _ _ c.in-Ok.ensures.ok (rw c.as_slice.ensures at c.in-Err-Failed-write_whole.ensures.part)

pub returns-in-Err-Memory-write_whole-clause-says : goal.returns-in-Err-Memory-write_whole-clause-says
returns-in-Err-Memory-write_whole-clause-says g c =
    out_whole c.args.said.now _ _ _ _ c.in-Ok.ensures.ok (rw c.as_slice.ensures at c.in-Err-Memory-write_whole.ensures.part)

pub returns-clause-says : goal.returns-clause-says
returns-clause-says g c =
    rw c.status.ensures (all_said c.args.said.now _ _ _ _ (record {
      out_is = c.in-Ok.ensures.ok;
      err_is = rw c.as_slice.ensures at c.in-Ok-write_whole.ensures.ok;
    }))

pub returns-clause-cause : goal.returns-clause-cause
returns-clause-cause g c =
    rw c.status.ensures (no_fault c.args.said.now.outcome _ _ _ _ c.in-Ok.ensures.counted.quiet c.in-Ok-write_whole.ensures.counted.quiet)
