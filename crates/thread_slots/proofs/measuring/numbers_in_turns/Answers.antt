use Rattle.thread_slots.proofs.Words.{◌≡◌, refl, ◌∷◌, [], ap, sym, ◌∙◌, arith, Some, slice_get, length-append, number_at, active, estimate, turn_numbers}
use Rattle.thread_slots.proofs.Searching.{both_more}
use Rattle.thread_slots.proofs.measuring.numbers_in_turns.Goals as goal

pub loop-i-preserved : goal.loop-i-preserved
loop-i-preserved c =
    let i = c.loop-i.i in
    let r = c.args.rotation.now in
    let group : slice_get r.numbers i ≡ Some c.group_of.result = number_at r.numbers i (omega (arith, c.requires.same_length)) ∙ ap Some (sym c.group_of.ensures.group) in
    rw (c.push.ensures.pushed, c.estimate.ensures, c.active-active.ensures.active) record {
      so_far = omega (arith, length-append c.loop-i.numbers (estimate c.at-count.result c.args.total (active r.turns c.group_of.result c.args.total) ∷ []), c.loop-i.invariant.so_far);
      done = both_more (turn_numbers r.turns c.args.total) (λ g k. estimate k c.args.total (active r.turns g c.args.total)) (λ g gs k ks. refl) r.numbers c.args.counts.now c.loop-i.numbers _ i c.group_of.result c.at-count.result _ group c.at-count.ensures.item refl c.loop-i.invariant.done;
    }
