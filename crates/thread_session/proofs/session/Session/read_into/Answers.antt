use Rattle.thread_session.proofs.Words.{◌≡◌, length, refl, subst, IfOk, OnOk, reply_of, AreGiven, values_in, Does, SessionView}
use Rattle.call_type.specs.declared.call.Call.TheVariants as call
use Rattle.session_model.specs.declared.reply.Body.TheVariants as body
use Rattle.thread_session.proofs.Calling.{call_does}
use Rattle.thread_session.proofs.session.Session.read_into.Goals as goal

pub returns-clause-does : goal.returns-clause-does
returns-clause-does g c =
    let q = c.self.inside in
    let s : SessionView = record { core = q.core; reader = q.reader } in
    let book = c.args.book.now in
    let set = c.args.set in
    subst (λ (v : SessionView). Does book v v (call.Read set) (reply_of (λ n. body.Values (values_in book v.core set)) c.read_into.result)) c.self.view_is
    (call_does book s q.core (call.Read set) (reply_of (λ n. body.Values (values_in book q.core set)) c.read_into.result) refl c.read_into.ensures.follows)

pub returns-clause-count : goal.returns-clause-count
returns-clause-count g c =
    subst (λ (v : SessionView). IfOk c.read_into.result (λ n. n ≡ length (values_in c.args.book.now v.core c.args.set))) c.self.view_is c.read_into.ensures.count

pub returns-clause-given : goal.returns-clause-given
returns-clause-given g c =
    subst (λ (v : SessionView). OnOk c.read_into.result (AreGiven (values_in c.args.book.now v.core c.args.set) c.args.out.now c.read_into.new.out)) c.self.view_is
    c.read_into.ensures.given
