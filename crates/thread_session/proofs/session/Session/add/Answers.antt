use Rattle.std.proofs.Common.{refl, subst, sym}
use Rattle.call_type.specs.declared.call.Call.TheVariants as call
use Rattle.thread_core.specs.Following.{changed_reply}
use Rattle.postfix_rules.specs.Fitting.{IsNamed}
use Rattle.thread_session.specs.SessionView.{SessionView}
use Rattle.thread_session.proofs.Handed.{handed, may_call, still_in_step}
use Rattle.thread_session.proofs.session.Session.add.Goals as goal

pub add-requires-clause-agrees : goal.add-requires-clause-agrees
add-requires-clause-agrees g c =
    let q = c.self.inside in
    may_call c.args.book.now q.core q.reader c.self.view_is c.requires.ready

pub add-requires-clause-named : goal.add-requires-clause-named
add-requires-clause-named g c = subst (λ (v : SessionView). IsNamed c.args.book.now v.core.shape c.args.e.now) (sym c.self.view_is) c.requires.named

pub invariant_of-self : goal.invariant_of-self
invariant_of-self g c =
    let q = c.self.inside in
    still_in_step c.args.book.now q.core q.reader (call.Add c.args.set c.args.e.now) (changed_reply c.add.result) c.add.new.self c.add.ensures.follows c.self.invariant

pub returns-clause-does : goal.returns-clause-does
returns-clause-does g c =
    let q = c.self.inside in
    handed c.args.book.now q.core q.reader (call.Add c.args.set c.args.e.now) (changed_reply c.add.result) c.add.new.self refl c.add.ensures.follows c.self.view_is

pub returns-clause-refusal : goal.returns-clause-refusal
returns-clause-refusal g c = c.add.ensures.refusal
