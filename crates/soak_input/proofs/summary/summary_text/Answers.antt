use Rattle.soak_input.proofs.Words.{FitsSigned, ◌∙◌, arith, rules, w64, to_z-of_z, thread_lines}
use Rattle.soak_input.proofs.Pieces.{summed, thread_more}
use Rattle.soak_input.proofs.summary.summary_text.Goals as goal

pub loop-thread-init : goal.loop-thread-init
unfolding thread_lines
loop-thread-init c = c.new-text.ensures.bytes

pub loop-thread-preserved : goal.loop-thread-preserved
loop-thread-preserved c =
    thread_more c.args.totals.now c.loop-thread.thread c.index-totals-thread.result _ _ (omega arith) c.index-totals-thread.is c.loop-thread.invariant c.in_ok-push_thread.ensures

pub returns : goal.returns
returns c =
    let sum = c.sum_of-sum.result in
    let fits : FitsSigned w64 sum = search rules in
    summed c.args.totals.now c.loop-thread.thread c.args.replies _ _ _ (omega arith) c.loop-thread.invariant (to_z-of_z w64 sum fits ∙ c.sum_of-sum.ensures) c.in_ok-writeln.ensures.bytes
