use Rattle.thread_slots.proofs.Words.{FitsSigned, rules, ◌≡◌, ◌+◌, ◌++◌, ◌∙◌, ap, ap₂, sym, refl, arith, w64, take, drop, to_z-of_z, sums, get_or, pos}
use Rattle.thread_slots.proofs.Words.{◌∷◌, [], drop-drop, drop-set-lt, length-set, take_more_set, int_wrapping_add, slice_get-get_or}
use Rattle.thread_slots.proofs.Searching.{both_more}
use Rattle.thread_slots.proofs.accumulating.add.Goals as goal

pub loop-i-preserved : goal.loop-i-preserved
loop-i-preserved c =
    let v = c.at.result in
    let sum = c.wrapped_sum-sum.result in
    let values = c.loop-i.values in
    let more = c.loop-i.more in
    let i = c.loop-i.i in
    let x = get_or more i (pos 0) in
    let v_fits : FitsSigned w64 v = search rules in
    let sum_fits : FitsSigned w64 sum = search rules in
    let x_fits : FitsSigned w64 x = search rules in
    let is : sum ≡ int_wrapping_add w64 v x = c.wrapped_sum-sum.ensures ∙ ap₂ (int_wrapping_add w64) (to_z-of_z w64 v v_fits) (to_z-of_z w64 x x_fits) in
    let here = slice_get-get_or more i (pos 0) (omega arith) in
    rw (c.put.ensures.put, to_z-of_z w64 sum sum_fits) record {
      long = length-set values i sum ∙ c.loop-i.invariant.long;
      room = length-set more i sum ∙ c.loop-i.invariant.room;
      done = rw (take_more_set values i sum (omega arith), drop-set-lt (i + 1) values i sum (omega arith), drop-set-lt (i + 1) more i sum (omega arith))
          (both_more sums (int_wrapping_add w64) (λ a xs b ys. refl) values more (take i values) (sums c.args.values.now c.args.more.now) i v x sum c.at.ensures.item here is c.loop-i.invariant.done);
      same = rw (take_more_set values i sum (omega arith), take_more_set more i sum (omega arith)) (ap (λ vs. vs ++ sum ∷ []) c.loop-i.invariant.same);
      rest = rw (drop-set-lt (i + 1) more i sum (omega arith)) (sym (drop-drop 1 i more) ∙ ap (drop 1) c.loop-i.invariant.rest ∙ drop-drop 1 i c.args.more.now);
    }
