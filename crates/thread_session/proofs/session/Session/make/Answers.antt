use Rattle.thread_session.proofs.Words.{subst, Does, SessionView}
use Rattle.thread_session.proofs.Calling.{call_does}
use Rattle.thread_session.proofs.session.Session.make.Goals as goal

pub returns : goal.returns
returns g c =
    let q = c.self.inside in
    let was : SessionView = record { core = q.core; reader = q.reader } in
    let now : SessionView = record { core = c.make.new.core; reader = q.reader } in
    subst (λ (v : SessionView). Does c.args.book.now v now c.args.c.now c.make.result) c.self.view_is (call_does c.args.book.now was c.make.new.core c.args.c.now c.make.result c.requires.still c.make.ensures)
