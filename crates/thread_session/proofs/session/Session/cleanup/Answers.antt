use Rattle.std.proofs.Common.{refl}
use Rattle.call_type.specs.declared.call.Call.TheVariants as call
use Rattle.session_model.specs.Replies.{plain}
use Rattle.thread_session.proofs.Handed.{handed, may_call, still_in_step}
use Rattle.thread_session.proofs.session.Session.cleanup.Goals as goal

pub cleanup-requires : goal.cleanup-requires
cleanup-requires g c =
    let q = c.self.inside in
    may_call c.args.book.now q.core q.reader c.self.view_is c.requires.ready

pub invariant_of-self : goal.invariant_of-self
invariant_of-self g c =
    let q = c.self.inside in
    still_in_step c.args.book.now q.core q.reader (call.Cleanup c.args.set) (plain c.cleanup.result) c.cleanup.new.self c.cleanup.ensures c.self.invariant

pub returns : goal.returns
returns g c =
    let q = c.self.inside in
    handed c.args.book.now q.core q.reader (call.Cleanup c.args.set) (plain c.cleanup.result) c.cleanup.new.self refl c.cleanup.ensures c.self.view_is
