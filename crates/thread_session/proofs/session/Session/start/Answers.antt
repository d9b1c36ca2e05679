use Rattle.std.proofs.Common.{refl}
use Rattle.call_type.specs.declared.call.Call.TheVariants as call
use Rattle.session_model.specs.Replies.{plain}
use Rattle.thread_session.proofs.Handed.{handed, may_call, still_in_step}
use Rattle.thread_session.proofs.session.Session.start.Goals as goal

pub start-requires : goal.start-requires
start-requires g c =
    let q = c.self.inside in
    may_call c.args.book.now q.core q.reader c.self.view_is c.requires.ready

pub invariant_of-self : goal.invariant_of-self
invariant_of-self g c =
    let q = c.self.inside in
    still_in_step c.args.book.now q.core q.reader (call.Start c.args.set) (plain c.start.result) c.start.new.self c.start.ensures c.self.invariant

pub returns : goal.returns
returns g c =
    let q = c.self.inside in
    handed c.args.book.now q.core q.reader (call.Start c.args.set) (plain c.start.result) c.start.new.self refl c.start.ensures c.self.view_is
