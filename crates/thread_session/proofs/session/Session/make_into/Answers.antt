use Rattle.thread_session.proofs.Words.{subst, Does, SessionView}
use Rattle.thread_session.proofs.Calling.{call_does}
use Rattle.thread_session.proofs.session.Session.make_into.Goals as goal

pub returns : goal.returns
returns g c =
    let q = c.self.inside in
    let was : SessionView = record { core = q.core; reader = q.reader } in
    let now : SessionView = record { core = c.make_into.new.core; reader = q.reader } in
    let k = c.make_into.ensures in
    record {
      reply = k.reply;
      does = subst (λ (v : SessionView). Does c.args.book.now v now c.args.c.now k.reply) c.self.view_is (call_does c.args.book.now was c.make_into.new.core c.args.c.now k.reply c.requires.still k.follows);
      kept = k.kept;
    }
