use Rattle.thread_registry.proofs.Words.{◌≡◌, ◌+◌, arith, inl, inr, subst, sym, take, cases_lt, common_steps, GivesEachOne, busy, unevenness}
use Rattle.thread_registry.proofs.tasks.cut.cut.Goals.{then-count-most+then-uneven-least, else-count-most, else-count-most-via-then-count-most+else-uneven-least, else-count-most-via-else-count-most}
use Rattle.thread_registry.proofs.tasks.cut.cut.Goals as goal

pub loop-place-preserved : goal.loop-place-preserved
loop-place-preserved g c =
    let load = g.T.Task.load in
    let tasks = c.args.tasks.now in
    let inv = c.loop-place.invariant in
    let next = c.loop-place.place + 1 in
    let count : c.loop-place.count + c.min.result ≡ busy load (take next tasks) = grind (arith, common_steps) in
    let uneven : c.abs_diff-uneven.result ≡ unevenness load tasks c.args.low c.args.workers next = grind (arith, common_steps) in
    record {
      front = grind (arith, common_steps);
      count = count;
      enough = omega (arith, inv.enough);
      within = grind (arith, common_steps);
      best =
          elim c.if-count-most.branch [
            | then-count-most+then-uneven-least w ↦
                subst (GivesEachOne load tasks c.args.low c.args.workers) (sym w.best-is)
                (record { within = omega arith; before = omega (arith, count, inv.enough); after = omega (arith, count, w.if-count-most, c.count_busy.ensures.count, c.requires.enough) })
            | else-count-most w ↦ subst (GivesEachOne load tasks c.args.low c.args.workers) (sym w.best-is) inv.best
          ];
      uneven = grind (arith, common_steps);
      least =
          λ j each h.
          elim c.if-count-most.branch [
            | then-count-most+then-uneven-least w ↦
                elim (cases_lt j next) [
                  | inl l ↦ omega (arith, w.least-is, w.if-uneven-least, inv.least j each (omega (arith, l)))
                  | inr l ↦ let is : j ≡ next = omega (arith, h, l) in rw is (omega (arith, w.least-is, uneven))
                ]
            | else-count-most w ↦
                elim (cases_lt j next) [
                  | inl l ↦ omega (arith, w.least-is, inv.least j each (omega (arith, l)))
                  | inr l ↦
                      let is : j ≡ next = omega (arith, h, l) in
                      elim w.else-count-most.branch [
                        | else-count-most-via-then-count-most+else-uneven-least v ↦ rw is (omega (arith, w.least-is, v.if-uneven-least, uneven))
                        | else-count-most-via-else-count-most v ↦
                            let few = (subst (GivesEachOne load tasks c.args.low c.args.workers) is each).after in
                            absurd (omega (arith, few, count, v.if-count-most, c.count_busy.ensures.count, c.requires.enough))
                      ]
                ]
          ];
    }
