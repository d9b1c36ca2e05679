use Rattle.std.proofs.Common.{refl}
use Rattle.call_type.specs.declared.call.Call.TheVariants as call
use Rattle.session_model.specs.Replies.{plain}
use Rattle.thread_session.proofs.Handed.{handed, may_call, still_in_step}
use Rattle.thread_session.proofs.session.Session.set_multiplex.Goals as goal

pub set_multiplex-requires : goal.set_multiplex-requires
set_multiplex-requires g c =
    let q = c.self.inside in
    may_call c.args.book.now q.core q.reader c.self.view_is c.requires.ready

pub invariant_of-self : goal.invariant_of-self
invariant_of-self g c =
    let q = c.self.inside in
    still_in_step c.args.book.now q.core q.reader (call.SetMultiplex c.args.set c.args.slice) (plain c.set_multiplex.result) c.set_multiplex.new.self c.set_multiplex.ensures c.self.invariant

pub returns : goal.returns
returns g c =
    let q = c.self.inside in
    handed c.args.book.now q.core q.reader (call.SetMultiplex c.args.set c.args.slice) (plain c.set_multiplex.result) c.set_multiplex.new.self refl c.set_multiplex.ensures c.self.view_is
