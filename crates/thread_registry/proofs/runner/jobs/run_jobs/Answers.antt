use Rattle.thread_registry.proofs.Words.{◌<◌, length, CanWork}
use Rattle.thread_registry.proofs.Outcomes.{left-of, ready-by}
use Rattle.thread_registry.proofs.runner.jobs.run_jobs.Goals as goal

pub take_out-requires-clause-shaped : goal.take_out-requires-clause-shaped
take_out-requires-clause-shaped g c = (c.requires.shaped.0, c.requires.shaped.1)

pub work_all-requires-clause-ready : goal.work_all-requires-clause-ready
work_all-requires-clause-ready g c κs within =
    λ k d h.
    record {
      opened = c.take_out.ensures.opened k d h;
      can = ready-by _ (λ x. 0 < length x.calls → CanWork c.args.book.now x.session x.calls) _ _ (c.take_out.ensures.jobs c.requires.shaped.0 c.requires.shaped.1) c.requires.shaped.2 k d h;
    }

pub returns-clause-left : goal.returns-clause-left
returns-clause-left g c = λ shape all.
    left-of _ _ _ _ _ _ _ _ _ (c.take_out.ensures.jobs shape all) c.work_all.ensures.worked
    c.put_back.ensures.handlers c.put_back.ensures.readers c.put_back.ensures.replies c.put_back.ensures.whole
