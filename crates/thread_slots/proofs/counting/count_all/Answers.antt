use Rattle.thread_slots.proofs.Words.{◌≡◌, ap, sym, refl, ◌∙◌, Option, Some, None, slice_get, arith, unwrap_or, option_copied, slice_get_read, Slot}
use Rattle.thread_slots.specs.Counted.{counted_all, counted_at, counted_over, counted_place, placed}
use Rattle.thread_slots.proofs.Lists.{some-at}
use Rattle.thread_slots.proofs.counting.count_all.Goals as goal
use Rattle.thread_slots.proofs.counting.count_all.Goals.{After-noting_set}

pub index_mut-requires : goal.index_mut-requires
index_mut-requires c = let h = c.requires.countable c.in-Some.number (sym c.requires.runner ∙ c.in-Some.is) in let lt = h.has_unit in let e = c.from-comp.ensures in omega arith

pub index_mut-requires-in-Some : goal.index_mut-requires-in-Some
index_mut-requires-in-Some c = let h = c.requires.countable c.in-Some.number (sym c.requires.runner ∙ c.in-Some.is) in let lt = h.has_place in let e = c.args.slots.now.ok.0 in omega arith

pub count_place-passed-requires : goal.count_place-passed-requires
count_place-passed-requires c slot is =
    let h = c.requires.countable c.in-Some.number (sym c.requires.runner ∙ c.in-Some.is) in
    let place = slice_get_read c.args.slots.now.items _ c.in-Some.number c.index_mut-in-Some.result.now refl h.has_place c.index_mut-in-Some.ensures.value in
    h.countable slot (some-at c.args.slots.now.items c.in-Some.number slot (place ∙ ap Some is))

-- the set that runs on the occurrence's component is counted on its unit
all : (c : After-noting_set)
    → counted_all (option_copied c.args.before) c.args.o.now c.args.units.now.items c.args.slots.now.items
    ≡ placed c.args.o.now.comp c.in-Some.number c.args.units.now.items c.args.slots.now.items (counted_place (option_copied c.args.before) c.args.o.now c.index_mut.result.now c.index_mut-in-Some.result.now)
all c =
    let b = option_copied c.args.before in
    let o = c.args.o.now in
    let us = c.args.units.now.items in
    let ss = c.args.slots.now.items in
    let k = c.in-Some.number in
    let h = c.requires.countable k (sym c.requires.runner ∙ c.in-Some.is) in
    let unit = ap (slice_get us) (sym c.from-comp.ensures) ∙ slice_get_read us _ c.from-comp.result c.index_mut.result.now refl (let lt = h.has_unit in let e = c.from-comp.ensures in omega arith) c.index_mut.ensures.value in
    let place = slice_get_read ss _ k c.index_mut-in-Some.result.now refl h.has_place c.index_mut-in-Some.ensures.value in
    ap (counted_over b o us ss) (sym c.requires.runner ∙ c.in-Some.is)
    ∙ ap (counted_at b o us ss k) unit
    ∙ ap (λ (p : Option (Option Slot)). placed o.comp k us ss (counted_place b o c.index_mut.result.now (unwrap_or p None))) place

pub returns-in-Some-clause-units : goal.returns-in-Some-clause-units
returns-in-Some-clause-units c = rw (all c, c.from-comp.ensures, c.count_place-passed.ensures.unit) refl

pub returns-in-Some-clause-slots : goal.returns-in-Some-clause-slots
returns-in-Some-clause-slots c = rw (all c, c.count_place-passed.ensures.place) refl

pub returns-in-Some-clause-set : goal.returns-in-Some-clause-set
returns-in-Some-clause-set c = rw (all c, c.noting_set.ensures, c.count_place-passed.ensures.passed) refl

pub returns-in-Some-clause-passed : goal.returns-in-Some-clause-passed
returns-in-Some-clause-passed c = rw (all c, c.count_place-passed.ensures.passed) refl
