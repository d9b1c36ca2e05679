use Rattle.thread_core.proofs.Answering.{refl, sym, arith, ap, ◌∙◌, List, UnitView, values_shown, is_absent, slot_faces, at, ◌≡◌, Some}
use Rattle.thread_core.proofs.Answering.{agrees_now, goes, reads, time_is, tellable, has_unit, zeroed_units, accum_lengths, accum_follows, code_follows}
use Rattle.thread_core.proofs.Answering.{counts_known, with_items_is, Accum, subst}
use Rattle.thread_core.proofs.Sums.{Added, absent_code, added, few_shown}
use Rattle.thread_core.proofs.Words.{ℤ, Plain, option_map}
use Rattle.thread_core.specs.Told.{AreGiven}
use Rattle.thread_core.proofs.thread.Core.accum_into.Goals as goal
use Rattle.thread_core.proofs.thread.Core.accum_into.Goals.{In-Some-index_mut, After-accumulate_into}

-- the set that the call names
lent : (c : In-Some-index_mut) → at c.self.inside.slots.items c.args.set ≡ Some c.in-Some-index_mut.slot
lent c = reads c.self.view_is (c.zero_refusal.ensures.there c.in_default.is) c.index_mut.ensures.value c.in-Some-index_mut.is

pub returns-in-Some-clause-follows : goal.returns-in-Some-clause-follows
returns-in-Some-clause-follows c = code_follows c.requires.agrees c.zero_refusal.ensures.refused c.in-Some.is

pub returns-in-Some-clause-refused : goal.returns-in-Some-clause-refused
returns-in-Some-clause-refused c =
    absent_code (is_absent (slot_faces c.args.self.now.slots) c.args.set) c.in-Some.code (sym (ap (option_map Plain) c.in-Some.is) ∙ c.zero_refusal.ensures.refused c.args.book.now)

pub read_into-requires : goal.read_into-requires
read_into-requires c =
    let w = goal.at.read_into-requires c in
    rw c.deref.ensures.value
    (tellable c.args.set (time_is c.self.view_is c.time-now.ensures) (agrees_now c.self.view_is c.requires.agrees) (lent w.In-Some-index_mut))

pub zero-requires : goal.zero-requires
zero-requires c =
    let w = goal.at.zero-requires c in
    rw c.deref_mut.ensures.value (has_unit c.args.book.now _ c.args.set _ (agrees_now c.self.view_is c.requires.agrees) (lent w.In-Some-index_mut))

-- what stands in the array
got : (c : After-accumulate_into) → at c.self.inside.slots.items c.args.set ≡ Some c.in-Some-index_mut.slot
    → Added c.zero.new.self.values (values_shown c.args.book.now c.self.inside.units.items c.time-now.result c.in-Some-index_mut.slot) c.args.out.now c.read_into.new.out c.accumulate_into.new.more c.accumulate_into.result
got c here =
    let agrees = agrees_now c.self.view_is c.requires.agrees in
    let same = ap (λ (us : List UnitView). values_shown c.args.book.now us c.time-now.result c.in-Some-index_mut.slot) c.deref.ensures.value in
    let few = few_shown c.args.set c.time-now.result agrees here in
    added _ _ _ _ _ _ (accum_lengths c.args.set c.time-now.result agrees here refl c.zero.ensures.slot) (omega (arith, few, c.requires.room))
    (subst (λ (vs : List ℤ). AreGiven vs c.args.out.now c.read_into.new.out) same c.read_into.ensures.given) c.accumulate_into.ensures.sums c.accumulate_into.ensures.count

pub returns-clause-follows : goal.returns-clause-follows
returns-clause-follows c =
    let w = goal.at.returns-clause-follows c in
    let here = lent w.In-Some-index_mut in
    let sums = got w.After-accumulate_into here in
    let units = with_items_is c.self.inside.units c.zero.new.units (omega arith) ∙ c.zero.ensures.units
    ∙ ap (zeroed_units c.in-Some-index_mut.slot) c.deref_mut.ensures.value in
    let slot = c.accumulate_into.ensures.slot ∙ ap (λ (vs : List ℤ). record c.zero.new.self { values = vs }) sums.all in
    rw (← c.self.view_is) (accum_follows _ _ c.args.set _ _ _ _ _ _ _ (goes c.self.view_is c.requires.agrees c.zero_refusal.ensures.refused c.in_default.is)
    (time_is c.self.view_is c.time-now.ensures) here refl units c.zero.ensures.slot sums.first slot)

pub returns-clause-past : goal.returns-clause-past
returns-clause-past c =
    let w = goal.at.returns-clause-past c in
    (got w.After-accumulate_into (lent w.In-Some-index_mut)).past

pub returns-clause-long : goal.returns-clause-long
returns-clause-long c =
    let w = goal.at.returns-clause-long c in
    (got w.After-accumulate_into (lent w.In-Some-index_mut)).long

pub invariant_of-self-2 : goal.invariant_of-self-2
invariant_of-self-2 c =
    let f = returns-clause-follows c in
    let g = goes {made = Accum c.args.set} c.self.view_is c.requires.agrees c.zero_refusal.ensures.refused c.in_default.is in
    (record { book = _; agrees = f.agrees }, counts_known c.args.set c.self.view_is g refl (λ a. refl) (λ a s. refl) f c.self.invariant.1)
