use Rattle.std.proofs.Common.{refl, subst, sym}
use Rattle.call_type.specs.declared.call.Call.TheVariants as call
use Rattle.session_model.specs.Replies.{plain}
use Rattle.postfix_rules.specs.Fitting.{IsNamed}
use Rattle.thread_session.specs.SessionView.{SessionView}
use Rattle.thread_session.proofs.Handed.{handed, may_call, still_in_step}
use Rattle.thread_session.proofs.session.Session.overflow.Goals as goal

pub overflow-requires-clause-agrees : goal.overflow-requires-clause-agrees
overflow-requires-clause-agrees g c =
    let q = c.self.inside in
    may_call c.args.book.now q.core q.reader c.self.view_is c.requires.ready

pub overflow-requires-clause-named : goal.overflow-requires-clause-named
overflow-requires-clause-named g c = subst (λ (v : SessionView). IsNamed c.args.book.now v.core.shape c.args.e.now) (sym c.self.view_is) c.requires.named

pub invariant_of-self : goal.invariant_of-self
invariant_of-self g c =
    let q = c.self.inside in
    still_in_step c.args.book.now q.core q.reader (call.Overflow c.args.set c.args.e.now c.args.t) (plain c.overflow.result) c.overflow.new.self c.overflow.ensures c.self.invariant

pub returns : goal.returns
returns g c =
    let q = c.self.inside in
    handed c.args.book.now q.core q.reader (call.Overflow c.args.set c.args.e.now c.args.t) (plain c.overflow.result) c.overflow.new.self refl c.overflow.ensures c.self.view_is
