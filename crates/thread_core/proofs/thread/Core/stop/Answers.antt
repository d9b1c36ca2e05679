use Rattle.thread_core.proofs.Answering.{refl, arith, ap, ◌∙◌, List, UnitView, values_shown, numbers_shown, rested, is_absent, slot_faces, not, runs}
use Rattle.thread_core.proofs.Answering.{values_refused, at, ◌≡◌, Some, Slot, reads, time_is, tellable, comp_below, stop_follows, rested_tellable}
use Rattle.thread_core.proofs.Answering.{agrees_now, forgotten, goes, with_items_is}
use Rattle.thread_core.proofs.thread.Core.stop.Goals as goal
use Rattle.thread_core.proofs.thread.Core.stop.Goals.{In-Some-index_mut, After-stop}

-- the set that the call names
lent : (c : In-Some-index_mut) → at c.self.inside.slots.items c.args.set ≡ Some c.in-Some-index_mut.slot
lent c = reads c.self.view_is (c.stop_refusal.ensures.there c.in_default.is) c.index_mut.ensures.value c.in-Some-index_mut.is

pub returns-in-Some-clause-follows : goal.returns-in-Some-clause-follows
returns-in-Some-clause-follows c =
    let faces = slot_faces c.args.self.now.slots in
    values_refused (is_absent faces c.args.set) (not (runs faces c.args.set)) _ c.requires c.stop_refusal.ensures.refused refl c.in-Some.is

pub stop-requires : goal.stop-requires
stop-requires c =
    let w = goal.at.stop-requires c in
    let agrees = agrees_now c.self.view_is c.requires in
    let here = lent w.In-Some-index_mut in
    rw c.deref_mut.ensures.value (record {
      has_unit = λ comp is. (comp_below c.args.book.now _ c.args.set comp _ agrees here is).1;
      has_widths = λ comp is. (comp_below c.args.book.now _ c.args.set comp _ agrees here is).0;
      measurable = (tellable c.args.set (time_is c.self.view_is c.time-now.ensures) agrees here).measurable;
    })

-- what is left of the set
kept : (c : After-stop) → c.stop.new.self ≡ rested (numbers_shown c.self.inside.units.items c.time-now.result c.in-Some-index_mut.slot) c.in-Some-index_mut.slot
kept c =
    let slot = c.in-Some-index_mut.slot in
    c.stop.ensures.slot ∙ ap (λ (us : List UnitView). rested (numbers_shown us c.time-now.result slot) slot) c.deref_mut.ensures.value

pub read-requires : goal.read-requires
read-requires c =
    let w = goal.at.read-requires c in
    rw (kept w.After-stop) (rested_tellable _
    (tellable c.args.set (time_is c.self.view_is c.time-now.ensures) (agrees_now c.self.view_is c.requires) (lent w.In-Some-index_mut)))

pub returns-clause-follows : goal.returns-clause-follows
returns-clause-follows c =
    let w = goal.at.returns-clause-follows c in
    let now = c.time-now.result in
    let told = c.read.ensures ∙ ap (λ (s : Slot). values_shown c.args.book.now c.deref.result.now now s) (kept w.After-stop) in
    let stopped = rw c.deref_mut.ensures.value at c.stop.ensures in
    let back = with_items_is c.self.inside.units c.stop.new.units (omega arith) in
    rw (← c.self.view_is) (stop_follows _ _ c.args.set _ _ _ _ _ (goes c.self.view_is c.requires c.stop_refusal.ensures.refused c.in_default.is)
    (time_is c.self.view_is c.time-now.ensures) (lent w.In-Some-index_mut) told (λ comp ws on is. back ∙ stopped.units comp ws on is)
    (λ none. back ∙ stopped.same_units none) (kept w.After-stop))

pub invariant_of-self-2 : goal.invariant_of-self-2
invariant_of-self-2 c = let f = returns-clause-follows c in (record { book = _; agrees = f.agrees }, forgotten _ _ c.forget.ensures)
