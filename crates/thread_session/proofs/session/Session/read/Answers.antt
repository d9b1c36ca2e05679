use Rattle.std.proofs.Common.{refl}
use Rattle.call_type.specs.declared.call.Call.TheVariants as call
use Rattle.thread_core.specs.Following.{values_reply}
use Rattle.thread_session.proofs.Handed.{handed_still, may_call}
use Rattle.thread_session.proofs.session.Session.read.Goals as goal

pub read-requires : goal.read-requires
read-requires g c =
    let q = c.self.inside in
    may_call c.args.book.now q.core q.reader c.self.view_is c.requires.ready

pub returns-clause-does : goal.returns-clause-does
returns-clause-does g c =
    let q = c.self.inside in
    handed_still c.args.book.now q.core q.reader (call.Read c.args.set) (values_reply c.read.result c.read.new.into) refl c.read.ensures.follows c.self.view_is

pub returns-clause-kept : goal.returns-clause-kept
returns-clause-kept g c = c.read.ensures.kept
