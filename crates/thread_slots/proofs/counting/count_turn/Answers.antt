use Rattle.thread_slots.proofs.Words.{◌≡◌, ◌+◌, ◌≤◌, ℕ, List, length, refl, ap, sym, ◌∙◌, arith, option_copied, get_or, get_or_from_slice_get}
use Rattle.thread_slots.proofs.Words.{with_turn, slice_get, slice_get_within, Some, Native, ◌<◌, ◌-◌, common_steps, elements, take_all, drop_all}
use Rattle.thread_slots.proofs.Words.{append-nil, length-set, IsSpanOf, AreCoded}
use Rattle.thread_slots.proofs.Turning.{length-with_turn, turn_put, turns_skip}
use Rattle.thread_slots.proofs.counting.count_turn.Goals as goal

-- a native of the group with the select code is looked at
looked : (natives : List Native) (numbers : List ℕ) (group select first end from to k : ℕ) (n : Native) → length numbers ≡ length natives → IsSpanOf numbers group first end → AreCoded natives select first end from to
    → slice_get natives k ≡ Some n → get_or numbers k 0 ≡ group → n.select ≡ select → (from ≤ k) × (k < to)
looked natives numbers group select first end from to k n e span coded at own code =
    let inside = span.all k (omega (arith, slice_get_within natives k n at)) own in
    coded.all k n inside.0 inside.1 at code

pub loop-i-init : goal.loop-i-init
loop-i-init c =
    let coded = c.coded_places-coded.ensures in
    let ns = c.args.natives.now in
    let old = c.args.counts.now in
    let first = c.coded_places-coded.result.first in
    record {
      long = refl;
      rest = λ k from. refl;
      done = λ numbers group e span. turns_skip c.args.domain (option_copied c.args.before) c.args.o.now group ns numbers old old 0 first first e c.requires.same_length (omega arith) (omega arith)
          (λ k n from below at own code. let h = looked ns numbers group c.args.o.now.select _ _ _ _ k n e span coded at own code in let low = h.0 in omega arith) refl;
    }

pub overflow_add-count : goal.overflow_add-count
overflow_add-count c =
    let read = c.loop-i.invariant.rest c.loop-i.i (omega arith) in
    let room = c.requires.room c.loop-i.i 0 (omega arith) in
    let count = get_or_from_slice_get c.loop-i.counts c.loop-i.i c.at-count.result 0 c.at-count.ensures.item in
    grind (arith, common_steps)

pub loop-i-preserved : goal.loop-i-preserved
loop-i-preserved c =
    let coded = c.coded_places-coded.ensures in
    let i = c.loop-i.i in
    let value = c.at-count.result + c.from.result in
    record {
      long = ap length c.put.ensures.put ∙ length-set c.loop-i.counts i value ∙ c.loop-i.invariant.long;
      rest = λ k from. ap (λ (xs : List ℕ). get_or xs k 0) c.put.ensures.put ∙ grind (arith, elements, common_steps, c.loop-i.invariant.rest k (omega arith));
      done = λ numbers group e span. c.put.ensures.put ∙ rw (sym (get_or_from_slice_get c.loop-i.counts i c.at-count.result 0 c.at-count.ensures.item), c.from.ensures, c.weight-w.ensures.weight)
          (turn_put c.args.domain (option_copied c.args.before) c.args.o.now group c.args.natives.now numbers c.args.counts.now c.loop-i.counts i c.at.result e c.requires.same_length c.at.ensures.item (omega arith)
          (span.own i (omega arith) (omega arith)) (c.loop-i.invariant.done numbers group e span));
    }

pub returns : goal.returns
returns c numbers group e span =
    let coded = c.coded_places-coded.ensures in
    let ns = c.args.natives.now in
    let old = c.args.counts.now in
    let d = c.args.domain in
    let before = option_copied c.args.before in
    let new = with_turn d before c.args.o.now group ns numbers old in
    turns_skip d before c.args.o.now group ns numbers old c.loop-i.counts c.loop-i.i _ (length old) e c.requires.same_length (let t : c.loop-i.i + (length old - c.loop-i.i) ≡ length old = omega arith in t) (omega arith)
    (λ k n from below at own code. let h = looked ns numbers group c.args.o.now.select _ _ _ _ k n e span coded at own code in let high = h.1 in omega arith) (c.loop-i.invariant.done numbers group e span)
    ∙ rw (take_all (length old) new (omega (arith, length-with_turn d before c.args.o.now group ns numbers old e c.requires.same_length)), drop_all (length old) old (omega arith)) (append-nil new)
