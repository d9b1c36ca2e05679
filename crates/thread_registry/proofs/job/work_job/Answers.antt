use Rattle.thread_registry.proofs.Words.{refl, rules, ap, subst, IsOpenedForCalls, session_of}
use Rattle.thread_registry.proofs.Going.{ran-by, worked-same}
use Rattle.thread_registry.proofs.job.work_job.Goals as goal

pub returns-in-Session : goal.returns-in-Session
returns-in-Session g c =
    ran-by _ _ _ (subst (λ o. IsOpenedForCalls o c.args.job.now.calls.items) c.in-Session.is c.requires.opened)
    (worked-same _ _ _ _ _ c.make_boxed-made.ensures (ap session_of c.in-Session.is) refl (search rules) refl refl refl (search rules) refl (search rules))
