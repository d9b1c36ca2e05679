use Rattle.thread_core.proofs.Answering.{refl, sym, ◌∙◌, ap, ap₂, at, ◌≡◌, Some, subst, option_copied, absent_follows, goes_there, CoreView, List, UnitView}
use Rattle.thread_core.proofs.Answering.{values_shown, ℕ, tellable, read_follows}
use Rattle.std.specs.Prelude.{ℤ, length}
use Rattle.std.proofs.Common.{arith}
use Rattle.thread_core.proofs.Sums.{few_shown}
use Rattle.thread_core.specs.Told.{AreGiven, values_in, values_of_place}
use Rattle.thread_core.proofs.thread.Core.read_into.Goals as goal
use Rattle.thread_core.proofs.thread.Core.read_into.Goals.{In-Some, After-deref, After-read_into}

lent : (c : In-Some) → at c.args.self.now.slots c.args.set ≡ Some c.in-Some.slot.now
lent c = sym c.set.ensures ∙ ap option_copied c.in-Some.is

units : (c : After-deref) → c.deref.result.now ≡ c.args.self.now.units
units c = c.deref.ensures.value ∙ ap (λ (v : CoreView). v.units) c.self.view_is

-- what the slot tells is what the core tells of its number
told : (c : After-read_into) → values_shown c.args.book.now c.deref.result.now c.time.result c.in-Some.slot.now ≡ values_in c.args.book.now c.args.self.now c.args.set
told c =
    ap₂ (λ (us : List UnitView) (t : ℕ). values_shown c.args.book.now us t c.in-Some.slot.now) (c.deref.ensures.value ∙ ap (λ (v : CoreView). v.units) c.self.view_is) c.time.ensures
    ∙ sym (ap (values_of_place c.args.book.now c.args.self.now) (sym c.set.ensures ∙ ap option_copied c.in-Some.is))

pub returns-in_default-clause-follows : goal.returns-in_default-clause-follows
returns-in_default-clause-follows c = absent_follows c.args.set _ c.requires (sym c.set.ensures ∙ ap option_copied c.in_default.is) refl

pub read_into-requires : goal.read_into-requires
read_into-requires c =
    let w = goal.at.read_into-requires c in
    rw (units w.After-deref) (tellable c.args.set c.time.ensures c.requires (lent w.In-Some))

pub returns-clause-follows : goal.returns-clause-follows
returns-clause-follows c =
    let w = goal.at.returns-clause-follows c in
    read_follows _ _ c.args.set _ _ (goes_there c.args.set _ c.requires (lent w.In-Some) refl) (lent w.In-Some)
    (ap (values_of_place c.args.book.now c.args.self.now) (lent w.In-Some))

pub returns-clause-count : goal.returns-clause-count
returns-clause-count c = let w = goal.at.returns-clause-count c in subst (λ (vs : List ℤ). c.read_into.result ≡ length vs) (told w.After-read_into) c.read_into.ensures.count

pub returns-clause-given : goal.returns-clause-given
returns-clause-given c =
    let w = goal.at.returns-clause-given c in
    subst (λ (vs : List ℤ). AreGiven vs c.args.out.now c.read_into.new.out) (told w.After-read_into) c.read_into.ensures.given

pub returns-clause-few : goal.returns-clause-few
returns-clause-few c =
    let w = goal.at.returns-clause-few c in
    let same = ap (λ (us : List UnitView). length (values_shown c.args.book.now us c.time.result c.in-Some.slot.now)) (units w.After-deref) in
    omega (arith, c.read_into.ensures.count, same, few_shown c.args.set c.time.result c.requires (lent w.In-Some))
