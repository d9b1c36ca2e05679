use Rattle.std.proofs.Common.{refl, subst, sym}
use Rattle.call_type.specs.declared.call.Call.TheVariants as call
use Rattle.session_model.specs.Replies.{plain}
use Rattle.postfix_rules.specs.Fitting.{IsNamed}
use Rattle.thread_session.specs.SessionView.{SessionView}
use Rattle.thread_session.proofs.Handed.{handed, may_call, still_in_step}
use Rattle.thread_session.proofs.session.Session.remove.Goals as goal

pub remove-requires-clause-agrees : goal.remove-requires-clause-agrees
remove-requires-clause-agrees g c =
    let q = c.self.inside in
    may_call c.args.book.now q.core q.reader c.self.view_is c.requires.ready

pub remove-requires-clause-named : goal.remove-requires-clause-named
remove-requires-clause-named g c = subst (λ (v : SessionView). IsNamed c.args.book.now v.core.shape c.args.e.now) (sym c.self.view_is) c.requires.named

pub invariant_of-self : goal.invariant_of-self
invariant_of-self g c =
    let q = c.self.inside in
    still_in_step c.args.book.now q.core q.reader (call.Remove c.args.set c.args.e.now) (plain c.remove.result) c.remove.new.self c.remove.ensures c.self.invariant

pub returns : goal.returns
returns g c =
    let q = c.self.inside in
    handed c.args.book.now q.core q.reader (call.Remove c.args.set c.args.e.now) (plain c.remove.result) c.remove.new.self refl c.remove.ensures c.self.view_is
