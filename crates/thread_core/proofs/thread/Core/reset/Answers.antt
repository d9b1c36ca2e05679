use Rattle.thread_core.proofs.Answering.{agrees_now, goes, refl, arith, ap, ◌∙◌, at, ◌≡◌, Some, reads, code_follows, time_is, has_unit}
use Rattle.thread_core.proofs.Answering.{reset_follows, counts_known, zeroed_units, with_items_is, Reset}
use Rattle.thread_core.proofs.thread.Core.reset.Goals as goal
use Rattle.thread_core.proofs.thread.Core.reset.Goals.{In-Some-index_mut}

-- the set that the call names
lent : (c : In-Some-index_mut) → at c.self.inside.slots.items c.args.set ≡ Some c.in-Some-index_mut.slot
lent c = reads c.self.view_is (c.zero_refusal.ensures.there c.in_default.is) c.index_mut.ensures.value c.in-Some-index_mut.is

pub returns-in-Some : goal.returns-in-Some
returns-in-Some c = code_follows c.requires c.zero_refusal.ensures.refused c.in-Some.is

pub zero-requires : goal.zero-requires
zero-requires c = rw c.deref_mut.ensures.value (has_unit _ _ c.args.set _ (agrees_now c.self.view_is c.requires) (lent (goal.at.zero-requires c).In-Some-index_mut))

pub returns : goal.returns
returns c =
    let w = goal.at.returns c in
    let units = with_items_is c.self.inside.units c.zero.new.units (omega arith) ∙ c.zero.ensures.units
    ∙ ap (zeroed_units c.in-Some-index_mut.slot) c.deref_mut.ensures.value in
    rw (← c.self.view_is) (reset_follows _ _ c.args.set _ _ _ _ (goes c.self.view_is c.requires c.zero_refusal.ensures.refused c.in_default.is)
    (time_is c.self.view_is c.time-ticks.ensures) (lent w.In-Some-index_mut) units c.zero.ensures.slot)

pub invariant_of-self-2 : goal.invariant_of-self-2
invariant_of-self-2 c =
    let f = returns c in
    let g = goes {made = Reset c.args.set} c.self.view_is c.requires c.zero_refusal.ensures.refused c.in_default.is in
    (record { book = _; agrees = f.agrees }, counts_known c.args.set c.self.view_is g refl (λ a. refl) (λ a s. refl) f c.self.invariant.1)
