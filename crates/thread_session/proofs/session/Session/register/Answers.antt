use Rattle.std.proofs.Common.{refl}
use Rattle.call_type.specs.declared.call.Call.TheVariants as call
use Rattle.session_model.specs.Replies.{plain}
use Rattle.thread_session.proofs.Handed.{handed, may_call, still_in_step}
use Rattle.thread_session.proofs.session.Session.register.Goals as goal

pub register-requires : goal.register-requires
register-requires g c =
    let q = c.self.inside in
    may_call c.args.book.now q.core q.reader c.self.view_is c.requires.ready

pub invariant_of-self : goal.invariant_of-self
invariant_of-self g c =
    let q = c.self.inside in
    still_in_step c.args.book.now q.core q.reader call.Register (plain c.register.result) c.register.new.self c.register.ensures c.self.invariant

pub returns : goal.returns
returns g c =
    let q = c.self.inside in
    handed c.args.book.now q.core q.reader call.Register (plain c.register.result) c.register.new.self refl c.register.ensures c.self.view_is
