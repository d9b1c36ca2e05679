use Rattle.std.proofs.Common.{refl}
use Rattle.call_type.specs.declared.call.Call.TheVariants as call
use Rattle.thread_core.specs.Following.{reply_of}
use Rattle.session_model.specs.declared.reply.Body.TheVariants as body
use Rattle.thread_session.proofs.Handed.{handed, may_call, still_in_step}
use Rattle.thread_session.proofs.session.Session.create.Goals as goal

pub create-requires : goal.create-requires
create-requires g c =
    let q = c.self.inside in
    may_call c.args.book.now q.core q.reader c.self.view_is c.requires.ready

pub invariant_of-self : goal.invariant_of-self
invariant_of-self g c =
    let q = c.self.inside in
    still_in_step c.args.book.now q.core q.reader call.Create (reply_of (λ value. body.SetNumber value) c.create.result) c.create.new.self c.create.ensures c.self.invariant

pub returns : goal.returns
returns g c =
    let q = c.self.inside in
    handed c.args.book.now q.core q.reader call.Create (reply_of (λ value. body.SetNumber value) c.create.result) c.create.new.self refl c.create.ensures c.self.view_is
