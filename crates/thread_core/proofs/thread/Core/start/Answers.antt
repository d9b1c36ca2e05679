use Rattle.thread_core.proofs.Answering.{agrees_now, goes, arith, ◌∙◌, at, ◌≡◌, Some, reads, code_follows, time_is, comp_below}
use Rattle.thread_core.proofs.Answering.{start_ready, start_follows, forgotten, with_items_is}
use Rattle.thread_core.proofs.thread.Core.start.Goals as goal
use Rattle.thread_core.proofs.thread.Core.start.Goals.{In-Some-index_mut}

-- the set that the call names
lent : (c : In-Some-index_mut) → at c.self.inside.slots.items c.args.set ≡ Some c.in-Some-index_mut.slot
lent c = reads c.self.view_is (c.start_refusal.ensures.there c.in_default.is) c.index_mut.ensures.value c.in-Some-index_mut.is

pub returns-in-Some : goal.returns-in-Some
returns-in-Some c = code_follows c.requires c.start_refusal.ensures.refused c.in-Some.is

pub begin-requires : goal.begin-requires
begin-requires c = rw c.deref_mut.ensures.value (record {
  has_unit = λ comp is. (comp_below _ _ c.args.set comp _ (agrees_now c.self.view_is c.requires) (lent (goal.at.begin-requires c).In-Some-index_mut) is).1;
  startable = start_ready c.args.set (goes c.self.view_is c.requires c.start_refusal.ensures.refused c.in_default.is) (lent (goal.at.begin-requires c).In-Some-index_mut);
})

pub returns : goal.returns
returns c =
    let w = goal.at.returns c in
    let begun = rw c.deref_mut.ensures.value at c.begin.ensures in
    let back = with_items_is c.self.inside.units c.begin.new.units (omega arith) in
    rw (← c.self.view_is) (start_follows _ _ c.args.set _ _ _ _ (goes c.self.view_is c.requires c.start_refusal.ensures.refused c.in_default.is)
    (time_is c.self.view_is c.time-now.ensures) (lent w.In-Some-index_mut) (λ comp unit on is. back ∙ begun.units comp unit on is) begun.slot)

pub invariant_of-self-2 : goal.invariant_of-self-2
invariant_of-self-2 c = let f = returns c in (record { book = _; agrees = f.agrees }, forgotten _ _ c.forget.ensures)
