use Rattle.counter_unit.proofs.Words.{◌≡◌, ℕ, ◌+◌, ◌^◌, List, Option, None, get_or, length, take, refl, ap, ap₂, sym, ◌∙◌, arith, nat_le, option_copied}
use Rattle.counter_unit.proofs.Words.{get_or-take, length-set, length-take-le, set-get_or, After, Register, UnitView, added, at_place, bit_of, moved_place, weight_at}
use Rattle.counter_unit.specs.Units.{base_after, place_now, places_now, value_after}
use Rattle.counter_unit.proofs.Kept.{AreKept-set, FitWidths-now, added_to, at_place-now, places_now-set, weight_now, within_room}
use Rattle.counter_unit.proofs.Steps.{all_carried, all_done, begins, goes_on, lowest, lowest_is, moved_is, others-lt}
use Rattle.counter_unit.proofs.unit.Unit.step_at.Goals as goal

pub loop-left-init : goal.loop-left-init
loop-left-init c =
    let u = c.self.inside in
    let h = c.self.invariant in
    let rs = take (length u.shape) u.registers in
    let long : length rs ≡ length u.shape = length-take-le (length u.shape) u.registers (omega (arith, h.few, h.long)) in
    let now = places_now rs u.values u.bases in
    let registers : now ≡ c.args.self.now.registers = ap (λ (v : UnitView). v.registers) c.self.view_is in
    let sound = FitWidths-now u.shape rs u.values u.bases u.first_values u.first_bases long (omega (arith, h.few, h.long_values)) (omega (arith, h.few, h.long_bases)) h.kept in
    record {
      shape = refl;
      registers = refl;
      rooms = refl;
      first_values = refl;
      first_bases = refl;
      selects = refl;
      fits = omega arith;
      long_values = h.long_values;
      long_bases = h.long_bases;
      kept = h.kept;
      stepping = rw (c.one_at_least-left.ensures, c.counters.ensures.length, c.amount_of-amount.ensures)
          (begins (option_copied c.args.before) c.args.o.now u.shape now c.args.all c.args.modified h.few (omega arith) sound
          (rw registers c.requires.admitted) (rw registers c.requires.plain));
    }

pub weight_at-more-requires : goal.weight_at-more-requires
weight_at-more-requires c un =
    let u = c.self.inside in
    let h = c.self.invariant in
    let n = length u.shape in
    let rs = take n u.registers in
    let k = lowest c.loop-left.left in
    let is = (lowest_is c.loop-left.left (omega arith) (omega arith)).1 in
    let below = c.loop-left.invariant.stepping.within k is in
    let before = option_copied c.args.before in
    let o = c.args.o.now in
    let long : length rs ≡ n = length-take-le n u.registers (omega (arith, h.few, h.long)) in
    let stored : get_or c.loop-left.self-inside.registers k None ≡ at_place rs k = ap (λ (xs : List (Option Register)). get_or xs k None) c.loop-left.invariant.registers ∙ sym (get_or-take n u.registers k None below) in
    c.loop-left.invariant.stepping.adds k is (sym c.has_bit.ensures ∙ ap bit_of un)
    ∙ ap (weight_at before o) (at_place-now rs u.values u.bases k (omega (arith, h.few, h.long_values)) (omega (arith, h.few, h.long_bases)))
    ∙ weight_now before o (at_place rs k) (get_or u.values k 0) (get_or u.bases k 0)
    ∙ sym (ap (weight_at before o) stored)

pub add-carried-requires-clause-small : goal.add-carried-requires-clause-small
add-carried-requires-clause-small c =
    let u = c.self.inside in
    let i = c.loop-left.invariant in
    let k = lowest c.loop-left.left in
    let below = i.stepping.within k (lowest_is c.loop-left.left (omega arith) (omega arith)).1 in
    let room = ap (λ (xs : List ℕ). get_or xs k 0) i.rooms ∙ c.self.invariant.are_rooms.each k below in
    let within = within_room u.shape (take (length u.shape) u.registers) c.loop-left.self-inside.values c.loop-left.self-inside.bases u.first_values u.first_bases k _ c.self.invariant.are_widths below room i.kept in
    within.small

pub add-carried-requires-clause-begins : goal.add-carried-requires-clause-begins
add-carried-requires-clause-begins c =
    let u = c.self.inside in
    let i = c.loop-left.invariant in
    let k = lowest c.loop-left.left in
    let below = i.stepping.within k (lowest_is c.loop-left.left (omega arith) (omega arith)).1 in
    let room = ap (λ (xs : List ℕ). get_or xs k 0) i.rooms ∙ c.self.invariant.are_rooms.each k below in
    let within = within_room u.shape (take (length u.shape) u.registers) c.loop-left.self-inside.values c.loop-left.self-inside.bases u.first_values u.first_bases k _ c.self.invariant.are_widths below room i.kept in
    rw (ap (λ (xs : List ℕ). get_or xs k 0) i.first_values) within.begins

pub add-carried-requires-clause-below : goal.add-carried-requires-clause-below
add-carried-requires-clause-below c =
    let u = c.self.inside in
    let i = c.loop-left.invariant in
    let k = lowest c.loop-left.left in
    let below = i.stepping.within k (lowest_is c.loop-left.left (omega arith) (omega arith)).1 in
    let room = ap (λ (xs : List ℕ). get_or xs k 0) i.rooms ∙ c.self.invariant.are_rooms.each k below in
    let within = within_room u.shape (take (length u.shape) u.registers) c.loop-left.self-inside.values c.loop-left.self-inside.bases u.first_values u.first_bases k _ c.self.invariant.are_widths below room i.kept in
    within.below

pub with_rare_bit-carry-requires-clause-off : goal.with_rare_bit-carry-requires-clause-off
with_rare_bit-carry-requires-clause-off c = c.loop-left.invariant.stepping.clear (lowest c.loop-left.left) (lowest_is c.loop-left.left (omega arith) (omega arith)).1

pub loop-left-preserved : goal.loop-left-preserved
loop-left-preserved c =
    let u = c.self.inside in
    let h = c.self.invariant in
    let now = c.loop-left.self-inside in
    let i = c.loop-left.invariant in
    let k = lowest c.loop-left.left in
    let n = length u.shape in
    let rs = take n u.registers in
    let p = at_place rs k in
    let w = get_or u.shape k 0 in
    let v = get_or now.values k 0 in
    let b = get_or now.bases k 0 in
    let fv = get_or u.first_values k 0 in
    let fb = get_or u.first_bases k 0 in
    let more = c.weight_at-more.result in
    let before = option_copied c.args.before in
    let o = c.args.o.now in
    let below = i.stepping.within k (lowest_is c.loop-left.left (omega arith) (omega arith)).1 in
    let long : length rs ≡ n = length-take-le n u.registers (omega (arith, h.few, h.long)) in
    let stored : get_or now.registers k None ≡ p = ap (λ (xs : List (Option Register)). get_or xs k None) i.registers ∙ sym (get_or-take n u.registers k None below) in
    let room : get_or now.rooms k 0 ≡ 2 ^ w = ap (λ (xs : List ℕ). get_or xs k 0) i.rooms ∙ h.are_rooms.each k below in
    let first : get_or now.first_values k 0 ≡ fv = ap (λ (xs : List ℕ). get_or xs k 0) i.first_values in
    let weight : more ≡ weight_at before o p = c.weight_at-more.ensures ∙ ap (weight_at before o) stored in
    let to = added_to w more p v b fv fb (h.are_widths.low k below) (omega arith) (λ none. weight ∙ ap (weight_at before o) none) (i.kept k below) in
    let after : added w more (place_now p v b) ≡ moved_place before o w (at_place (places_now rs now.values now.bases) k) =
    ap (λ (m : ℕ). added w m (place_now p v b)) (weight ∙ sym (weight_now before o p v b))
    ∙ moved_is before o w (place_now p v b)
    ∙ sym (ap (moved_place before o w) (at_place-now rs now.values now.bases k (omega (arith, h.few, i.long_values)) (omega (arith, h.few, i.long_bases)))) in
    let value : c.add-carried.new.value ≡ value_after (2 ^ w) fv v more = c.add-carried.ensures.value ∙ ap₂ (λ (r f : ℕ). value_after r f v more) room first in
    let base : c.add-carried.new.base ≡ base_after (2 ^ w) fv v b more = c.add-carried.ensures.base ∙ ap₂ (λ (r f : ℕ). base_after r f v b more) room first in
    let carried = c.add-carried.ensures.carried ∙ ap (λ (r : ℕ). nat_le r (v + more)) room ∙ to.carried ∙ ap (λ (a : After). a.carried) after in
    record {
      shape = i.shape;
      registers = set-get_or now.registers k None ∙ i.registers;
      rooms = i.rooms;
      first_values = i.first_values;
      first_bases = i.first_bases;
      selects = i.selects;
      fits = omega arith;
      long_values = length-set now.values k _ ∙ i.long_values;
      long_bases = length-set now.bases k _ ∙ i.long_bases;
      kept = rw (value, base) (AreKept-set u.shape rs now.values now.bases u.first_values u.first_bases k (value_after (2 ^ w) fv v more) (base_after (2 ^ w) fv v b more) (omega (arith, h.few, i.long_values)) (omega (arith, h.few, i.long_bases)) to.kept i.kept);
      stepping = rw (places_now-set rs now.values now.bases k c.add-carried.new.value c.add-carried.new.base) (goes_on before o u.shape (places_now rs u.values u.bases) (places_now rs now.values now.bases) _ _ c.loop-left.left c.loop-left.carry _ _ (omega arith) (omega arith) h.few i.stepping
          (ap₂ (place_now p) value base ∙ to.place ∙ ap (λ (a : After). a.place) after)
          (c.with_rare_bit-carry.ensures.here ∙ ap bit_of carried) c.with_rare_bit-carry.ensures.there);
    }

pub loop-left-smaller : goal.loop-left-smaller
loop-left-smaller c = others-lt c.loop-left.left (omega arith) (omega arith)

pub returns : goal.returns
returns c =
    let u = c.self.inside in
    let h = c.self.invariant in
    let i = c.loop-left.invariant in
    let n = length u.shape in
    let rs = take n u.registers in
    let long : length rs ≡ n = length-take-le n u.registers (omega (arith, h.few, h.long)) in
    let before = option_copied c.args.before in
    let was = places_now rs u.values u.bases in
    let now = places_now rs c.loop-left.self-inside.values c.loop-left.self-inside.bases in
    let sound = FitWidths-now u.shape rs u.values u.bases u.first_values u.first_bases long (omega (arith, h.few, h.long_values)) (omega (arith, h.few, h.long_bases)) h.kept in
    let done = all_done before c.args.o.now u.shape was now c.args.modified c.amount_of-amount.result c.loop-left.left c.loop-left.carry sound.same_length (omega arith) i.stepping in
    record {
      registers = rw (i.shape, i.registers, done, ← c.self.view_is) refl;
      carries = rw (← c.self.view_is) (all_carried before c.args.o.now u.shape was now c.args.modified c.amount_of-amount.result c.loop-left.left c.loop-left.carry sound.same_length h.few i.fits (omega arith) i.stepping);
    }
