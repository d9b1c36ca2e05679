use Rattle.std.proofs.Common.{refl}
use Rattle.call_type.specs.declared.call.Call.TheVariants as call
use Rattle.thread_core.specs.Following.{values_reply}
use Rattle.thread_session.proofs.Handed.{handed, may_call, still_in_step}
use Rattle.thread_session.proofs.session.Session.accum.Goals as goal

pub accum-requires : goal.accum-requires
accum-requires g c =
    let q = c.self.inside in
    may_call c.args.book.now q.core q.reader c.self.view_is c.requires.ready

pub invariant_of-self : goal.invariant_of-self
invariant_of-self g c =
    let q = c.self.inside in
    still_in_step c.args.book.now q.core q.reader (call.Accum c.args.set) (values_reply c.accum.result c.accum.new.into) c.accum.new.self c.accum.ensures.follows c.self.invariant

pub returns-clause-does : goal.returns-clause-does
returns-clause-does g c =
    let q = c.self.inside in
    handed c.args.book.now q.core q.reader (call.Accum c.args.set) (values_reply c.accum.result c.accum.new.into) c.accum.new.self refl c.accum.ensures.follows c.self.view_is

pub returns-clause-kept : goal.returns-clause-kept
returns-clause-kept g c = c.accum.ensures.kept
