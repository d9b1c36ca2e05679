use Rattle.thread_core.proofs.Answering.{refl, sym, ◌∙◌, ap, ap₂, at, ◌≡◌, Some, option_copied, absent_follows, goes_there, CoreView, List, UnitView}
use Rattle.thread_core.proofs.Answering.{values_shown, ℕ, tellable, read_follows}
use Rattle.thread_core.proofs.thread.Core.read.Goals as goal
use Rattle.thread_core.proofs.thread.Core.read.Goals.{In-Some, After-deref}

lent : (c : In-Some) → at c.args.self.now.slots c.args.set ≡ Some c.in-Some.slot.now
lent c = sym c.set.ensures ∙ ap option_copied c.in-Some.is

units : (c : After-deref) → c.deref.result.now ≡ c.args.self.now.units
units c = c.deref.ensures.value ∙ ap (λ (v : CoreView). v.units) c.self.view_is

pub returns-in_default-clause-follows : goal.returns-in_default-clause-follows
returns-in_default-clause-follows c = absent_follows c.args.set _ c.requires (sym c.set.ensures ∙ ap option_copied c.in_default.is) refl

pub read-requires : goal.read-requires
read-requires c =
    let w = goal.at.read-requires c in
    rw (units w.After-deref) (tellable c.args.set c.time.ensures c.requires (lent w.In-Some))

pub returns-clause-follows : goal.returns-clause-follows
returns-clause-follows c =
    let w = goal.at.returns-clause-follows c in
    read_follows _ _ c.args.set _ _ (goes_there c.args.set _ c.requires (lent w.In-Some) refl) (lent w.In-Some)
    (c.read.ensures ∙ ap₂ (λ (us : List UnitView) (t : ℕ). values_shown c.args.book.now us t c.in-Some.slot.now) (units w.After-deref) c.time.ensures)
