use Rattle.std.proofs.Common.{refl}
use Rattle.call_type.specs.declared.call.Call.TheVariants as call
use Rattle.thread_core.specs.Following.{reply_of}
use Rattle.session_model.specs.declared.reply.Body.TheVariants as body
use Rattle.thread_session.proofs.Handed.{handed_still, may_call}
use Rattle.thread_session.proofs.session.Session.assign.Goals as goal

pub assign-requires : goal.assign-requires
assign-requires g c =
    let q = c.self.inside in
    may_call c.args.book.now q.core q.reader c.self.view_is c.requires.ready

pub returns : goal.returns
returns g c =
    let q = c.self.inside in
    handed_still c.args.book.now q.core q.reader (call.Assign c.args.set) (reply_of (λ value. body.Assigned value) c.assign.result) refl c.assign.ensures c.self.view_is
