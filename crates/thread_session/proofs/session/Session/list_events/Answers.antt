use Rattle.std.proofs.Common.{refl}
use Rattle.call_type.specs.declared.call.Call.TheVariants as call
use Rattle.thread_core.specs.Following.{reply_of}
use Rattle.session_model.specs.declared.reply.Body.TheVariants as body
use Rattle.thread_session.proofs.Handed.{handed_still, may_call}
use Rattle.thread_session.proofs.session.Session.list_events.Goals as goal

pub list_events-requires : goal.list_events-requires
list_events-requires g c =
    let q = c.self.inside in
    may_call c.args.book.now q.core q.reader c.self.view_is c.requires.ready

pub returns : goal.returns
returns g c =
    let q = c.self.inside in
    handed_still c.args.book.now q.core q.reader (call.ListEvents c.args.set) (reply_of (λ value. body.Events value) c.list_events.result) refl c.list_events.ensures c.self.view_is
