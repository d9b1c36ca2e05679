use Rattle.thread_registry.proofs.Words.{rules, arith, refl, get_or, ◌<◌, ◌≤◌, common_steps, get_or_default}
use Rattle.thread_registry.proofs.Dealt.{count-few, count-more, none-counted, one-at-most, some_line}
use Rattle.thread_registry.proofs.runner.deal.count_calls.Goals as goal

pub loop-line-init : goal.loop-line-init
loop-line-init c = record { len = refl; each = λ t h. none-counted 0 t refl h }

pub overflow_add-counts : goal.overflow_add-counts
overflow_add-counts c =
    let line = get_or c.args.plan.now c.loop-line.line-index some_line in
    let few : line.thread < 64 = c.requires.threads.each c.loop-line.line-index some_line c.loop-line-test.true in
    let least = count-few c.loop-line.counts c.args.plan.now c.loop-line.line-index line.thread (omega (arith, c.loop-line-test.true)) few c.loop-line.invariant.each in
    let one : c.calls_in.result ≤ 1 = omega (arith, c.calls_in.ensures, one-at-most line.planned) in
    grind (arith, common_steps)

pub loop-line-preserved : goal.loop-line-preserved
loop-line-preserved c =
    let line = get_or c.args.plan.now c.loop-line.line-index some_line in
    let few : line.thread < 64 = c.requires.threads.each c.loop-line.line-index some_line c.loop-line-test.true in
    let here = get_or_default c.args.plan.now c.loop-line.line-index line some_line c.loop-line-test.true in
    record {
      len = search rules;
      each =
          count-more c.loop-line.counts c.args.plan.now c.loop-line.line-index line c.calls_in.result _ c.loop-line-test.true here (omega (arith, few, c.loop-line.invariant.len)) c.calls_in.ensures refl
          c.loop-line.invariant.each;
    }
