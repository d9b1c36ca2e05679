use Rattle.thread_session.proofs.Words.{ap, subst, ℕ, [], Dry, opening, CoreView, Stands}
use Rattle.thread_session.proofs.Opened.{made_new}
use Rattle.thread_session.proofs.session.Session.new.Goals as goal

pub over-requires-clause-new : goal.over-requires-clause-new
over-requires-clause-new g c = made_new c.in_ok-core.core c.args.thread c.args.shape c.in_ok-core.ensures.core (c.in_ok-core.ensures.stands [] [] Dry).shape

pub returns-clause-stands : goal.returns-clause-stands
returns-clause-stands g c book stream told =
    subst (λ (t : ℕ). Stands book c.over.result (opening t stream.rest stream.mark)) (ap (λ (core : CoreView). core.thread) c.in_ok-core.ensures.core) (c.over.ensures.stands book stream told)
