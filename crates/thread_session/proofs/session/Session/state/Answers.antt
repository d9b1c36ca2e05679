use Rattle.std.proofs.Common.{refl}
use Rattle.call_type.specs.declared.call.Call.TheVariants as call
use Rattle.thread_core.specs.Following.{reply_of}
use Rattle.session_model.specs.declared.reply.Body.TheVariants as body
use Rattle.thread_session.proofs.Handed.{handed_still, may_call}
use Rattle.thread_session.proofs.session.Session.state.Goals as goal

pub state-requires : goal.state-requires
state-requires g c =
    let q = c.self.inside in
    may_call c.args.book.now q.core q.reader c.self.view_is c.requires.ready

pub returns : goal.returns
returns g c =
    let q = c.self.inside in
    handed_still c.args.book.now q.core q.reader (call.State c.args.set) (reply_of (λ value. body.State value) c.state.result) refl c.state.ensures c.self.view_is
