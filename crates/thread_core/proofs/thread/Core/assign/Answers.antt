use Rattle.thread_core.proofs.Answering.{refl, sym, ◌∙◌, ap, at, ◌≡◌, Some, Option, ℕ, option_copied, absent_follows, assign_follows, assign_refused}
use Rattle.std.specs.Prelude.{is_some}
use Rattle.papi_base.proofs.Steps.{none_of}
use Rattle.thread_core.proofs.thread.Core.assign.Goals as goal
use Rattle.thread_core.proofs.thread.Core.assign.Goals.{After-is_some, In-Some}

lent : (c : In-Some) → at c.args.self.now.slots c.args.set ≡ Some c.in-Some.slot.now
lent c = sym c.set.ensures ∙ ap option_copied c.in-Some.is

turns : (c : After-is_some) → is_some c.in-Some.slot.now.set.rest.slice ≡ c.is_some.result
turns c = ap (λ (o : Option ℕ). is_some o) (sym c.slice.ensures) ∙ sym c.is_some.ensures

pub returns-in_default : goal.returns-in_default
returns-in_default c = absent_follows c.args.set _ c.requires (sym c.set.ensures ∙ ap option_copied c.in_default.is) refl

pub returns-then-is_some : goal.returns-then-is_some
returns-then-is_some c =
    let w = goal.at.returns-then-is_some c in
    assign_refused c.args.set _ c.requires (lent w.In-Some) (turns w.After-is_some ∙ c.if-is_some.true)

pub returns : goal.returns
returns c =
    let w = goal.at.returns c in
    let plain = none_of _ (turns w.After-is_some ∙ c.if-is_some.false) in
    assign_follows _ _ c.args.set _ _ c.requires (lent w.In-Some) plain (c.assigned.ensures plain)
