use Rattle.thread_session.proofs.Words.{arith, ap, ◌∙◌, unwrap_or}
use Rattle.std.proofs.lemmas.Grind.{common_steps}
use Rattle.thread_session.proofs.Delivering.{cut_off, fewer_left, next_left, one_note}
use Rattle.thread_session.proofs.delivery.deliver.Goals as goal

pub loop-told-preserved : goal.loop-told-preserved
loop-told-preserved g c =
    let passed = c.args.taken.now.passed in
    let i = c.loop-told._told in
    let inv = c.loop-told.invariant in
    record {
      told = one_note _ _ _ c.args.thread c.args.taken.now.set c.unwrap_or-index.result c.args.o.now passed i (omega (arith, c.loop-told-test.true, c.len-told-end.ensures.length))
          (c.unwrap_or-index.ensures ∙ ap (λ x. unwrap_or x 0) (c.pop_first.ensures.first ∙ next_left passed c.loop-told.left i inv.left)) inv.told c.in_ok-on_overflow.ensures.0;
      left = c.pop_first.ensures.rest ∙ fewer_left passed c.loop-told.left i inv.left;
    }

pub returns-in_err-on_overflow-clause-part : goal.returns-in_err-on_overflow-clause-part
returns-in_err-on_overflow-clause-part g c =
    cut_off c.from_residual.result _ _ _ c.args.thread c.args.taken.now.set c.args.o.now c.args.taken.now.passed c.loop-told._told
    (omega (arith, c.loop-told-test.true, c.len-told-end.ensures.length)) c.loop-told.invariant.told c.in_err-on_overflow.ensures.1

pub returns-clause-whole : goal.returns-clause-whole
returns-clause-whole g c = grind (arith, common_steps)
