-- a place joins the last group or begins the next one
use Rattle.multiplex.proofs.Words.{◌≡◌, ◌+◌, ◌<◌, ◌^◌, true, false, ◌++◌, ◌∷◌, [], arith, refl, ap, sym, ◌∙◌, option_map, Some, slice_get}
use Rattle.multiplex.proofs.Words.{length-append, slice_get-map, Native, is_assignable, masks_of, masks_push, mask_small, one_mask}
use Rattle.multiplex.proofs.Grouping.{all_at, turn_joins, turn_begins, group_count-push, below_push, ordered_push}
use Rattle.multiplex.proofs.rotation.Rotation.make.Goals as goal
use Rattle.multiplex.proofs.rotation.Rotation.make.Goals.{then-not-joins, else-not-joins}

pub loop-i-preserved : goal.loop-i-preserved
loop-i-preserved c =
    let masks = masks_of c.args.natives.now in
    let m = c.at-mask.result.allowed in
    let inv = c.loop-i.invariant in
    let numbers = c.loop-i.numbers in
    let group = c.loop-i.group.allowed in
    let at : slice_get masks c.loop-i.i ≡ Some m = slice_get-map (λ (n : Native). n.allowed) c.args.natives.now c.loop-i.i ∙ ap (option_map (λ (n : Native). n.allowed)) c.at-mask.ensures.item in
    let small = mask_small c.args.counters m c.requires.few (all_at (λ (n : Native). n.allowed < 2 ^ c.args.counters) c.args.natives.now c.loop-i.i c.at-mask.result c.requires.in_range c.at-mask.ensures.item) in
    elim c.if-not-joins.branch [
      | then-not-joins w ↦
          let isnt : is_assignable (group ++ m ∷ []) ≡ false = sym c.joins.ensures.fits ∙ w.if-not-joins.true in
          let view : c.if-not-joins.group ≡ record { counters = c.args.counters; allowed = m ∷ [] } = w.group-is ∙ w.group_of_one-group.ensures in
          rw (c.push.ensures.pushed, view, w.number-is) record {
            counters = refl;
            few = omega arith;
            masks = one_mask m small;
            number = omega arith;
            below = below_push numbers c.loop-i.number (c.loop-i.number + 1) (omega arith) inv.below;
            ordered = ordered_push numbers c.loop-i.number (c.loop-i.number + 1) (omega arith) inv.below inv.ordered;
            placed = omega (arith, length-append numbers ((c.loop-i.number + 1) ∷ []));
            last = λ some. group_count-push numbers (c.loop-i.number + 1);
            rest = turn_begins numbers group c.loop-i.number c.loop-i.i masks _ m at isnt inv.rest;
          }
      | else-not-joins w ↦
          let is : c.joins.result ≡ true = w.if-not-joins.false in
          let fits : is_assignable (group ++ m ∷ []) ≡ true = sym c.joins.ensures.fits ∙ is in
          let view = w.group-is ∙ c.joins.ensures.joined is in
          rw (c.push.ensures.pushed, view, w.number-is) record {
            counters = inv.counters;
            few = omega (arith, length-append group (m ∷ []));
            masks = masks_push group m inv.masks small;
            number = omega arith;
            below = below_push numbers c.loop-i.number c.loop-i.number (omega arith) inv.below;
            ordered = ordered_push numbers c.loop-i.number c.loop-i.number (omega arith) inv.below inv.ordered;
            placed = omega (arith, length-append numbers (c.loop-i.number ∷ []));
            last = λ some. group_count-push numbers c.loop-i.number;
            rest = turn_joins numbers group c.loop-i.number c.loop-i.i masks _ m at fits inv.rest;
          }
    ]
