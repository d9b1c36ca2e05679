use Rattle.std.proofs.Common.{◌∙◌, arith, sym}
use Rattle.region_report.proofs.Stacks.{all_done, ended_on, not_ended}
use Rattle.region_report.proofs.opened.are_ended.Goals as goal

pub loop-opens-preserved : goal.loop-opens-preserved
loop-opens-preserved c = c.loop-opens.invariant ∙ ended_on c.args.threads.now c.loop-opens.opens-index c.opens-item.result (omega arith) c.opens-item.is (omega (arith, c.len.ensures, c.if-len-gt0.false))

pub returns-then-len-gt0 : goal.returns-then-len-gt0
returns-then-len-gt0 c = sym (c.loop-opens.invariant ∙ not_ended c.args.threads.now c.loop-opens.opens-index c.opens-item.result (omega arith) c.opens-item.is (omega (arith, c.len.ensures, c.if-len-gt0.true)))

pub returns : goal.returns
returns c = sym (c.loop-opens.invariant ∙ all_done c.args.threads.now c.loop-opens.opens-index (omega arith))
