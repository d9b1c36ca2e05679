use Rattle.std.proofs.Common.{refl}
use Rattle.call_type.specs.declared.call.Call.TheVariants as call
use Rattle.thread_core.specs.Following.{values_reply}
use Rattle.thread_session.proofs.Handed.{handed, may_call, still_in_step}
use Rattle.thread_session.proofs.session.Session.stop.Goals as goal

pub stop-requires : goal.stop-requires
stop-requires g c =
    let q = c.self.inside in
    may_call c.args.book.now q.core q.reader c.self.view_is c.requires.ready

pub invariant_of-self : goal.invariant_of-self
invariant_of-self g c =
    let q = c.self.inside in
    still_in_step c.args.book.now q.core q.reader (call.Stop c.args.set) (values_reply c.stop.result c.stop.new.into) c.stop.new.self c.stop.ensures.follows c.self.invariant

pub returns-clause-does : goal.returns-clause-does
returns-clause-does g c =
    let q = c.self.inside in
    handed c.args.book.now q.core q.reader (call.Stop c.args.set) (values_reply c.stop.result c.stop.new.into) c.stop.new.self refl c.stop.ensures.follows c.self.view_is

pub returns-clause-kept : goal.returns-clause-kept
returns-clause-kept g c = c.stop.ensures.kept
