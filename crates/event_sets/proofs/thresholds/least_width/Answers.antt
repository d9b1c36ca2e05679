use Rattle.event_sets.proofs.Words.{◌≡◌, ◌<◌, ◌+◌, length, take, ap, sym, subst, ◌∙◌, arith, slice_get, Some, ℕ, length-take-le, number_at}
use Rattle.event_sets.proofs.Words.{least_width}
use Rattle.event_sets.proofs.Arming.{least_first, least_next}
use Rattle.event_sets.proofs.thresholds.least_width.Goals as goal
use Rattle.event_sets.proofs.thresholds.least_width.Goals.{then-c-eq0, then-c-eq0-via-then-c-eq0, then-c-eq0-via-else-c-eq0+then-width-least, else-c-eq0+else-width-least}

pub loop-c-preserved : goal.loop-c-preserved
loop-c-preserved c =
    let ws = c.args.comp.now in
    let i = c.loop-c.c in
    let w = c.width-width.result in
    let before = c.loop-c.least in
    let below : i < length ws = omega (arith, c.counters-c-end.ensures.length, c.loop-c-test.true) in
    let item : slice_get ws i ≡ Some w = number_at ws i below ∙ ap Some (sym c.width-width.ensures.width) in
    let count : length (take i ws) ≡ i = length-take-le i ws (omega (arith, below)) in
    elim c.if-c-eq0.branch [
      | then-c-eq0 v ↦ elim v.then-c-eq0.branch [
        | then-c-eq0-via-then-c-eq0 u ↦
            let P : ℕ → Type 0 = λ k. slice_get ws k ≡ Some w → w ≡ least_width (take (k + 1) ws) in
            rw v.least-is record {
              least = subst P (sym u.if-c-eq0.true) (least_first ws w) item;
              high = c.width-width.ensures.high;
            }
        | then-c-eq0-via-else-c-eq0+then-width-least u ↦
            let next = least_next ws i w before item (omega (arith, count, u.if-c-eq0.false)) c.loop-c.invariant.least in
            rw v.least-is record {
              least = omega (arith, next, u.if-width-least.true);
              high = c.width-width.ensures.high;
            }
      ]
      | else-c-eq0+else-width-least u ↦
          let next = least_next ws i w before item (omega (arith, count, u.if-c-eq0.false)) c.loop-c.invariant.least in
          rw u.least-is record {
            least = omega (arith, next, u.if-width-least.false);
            high = c.loop-c.invariant.high;
          }
    ]
