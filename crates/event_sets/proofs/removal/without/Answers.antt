use Rattle.event_sets.proofs.Words.{◌≡◌, ◌<◌, ◌∷◌, [], length, take, arith, length-append, length-take-le, get_at}
use Rattle.event_sets.proofs.Removed.{goes_at, stays_at}
use Rattle.event_sets.proofs.removal.without.Goals as goal
use Rattle.event_sets.proofs.removal.without.Goals.{then-i-place, else-i-place}

pub loop-i-preserved : goal.loop-i-preserved
loop-i-preserved g c =
    let xs = c.args.items.now in
    let i = c.loop-i.i in
    let below : i < length xs = omega (arith, c.len-i-end.ensures.length, c.loop-i-test.true) in
    let count : length (take i xs) ≡ i = length-take-le i xs (omega (arith, below)) in
    elim c.if-i-place.branch [
      | then-i-place w ↦ rw (w.left-is, w.push.ensures.pushed) record {
        few = omega (arith, length-append c.loop-i.left (w.at.result ∷ []), c.loop-i.invariant.few);
        so_far = stays_at xs c.loop-i.left c.args.place i w.at.result w.at.ensures.item count w.if-i-place.true c.loop-i.invariant.so_far;
      }
      | else-i-place w ↦
          let at = get_at xs i below in
          rw w.left-is record {
            few = omega (arith, c.loop-i.invariant.few);
            so_far = goes_at xs c.loop-i.left c.args.place i at.0 at.1 count w.if-i-place.false c.loop-i.invariant.so_far;
          }
    ]
