use Rattle.region_report.proofs.Words.{arith, get_or-replicate, THREADS}
use Rattle.std.specs.Prelude.{false}
use Rattle.region_report.proofs.Flags.{flags_more}
use Rattle.region_report.proofs.threads.threads_of_lines.Goals as goal

pub loop-line-init : goal.loop-line-init
loop-line-init c = λ t small. get_or-replicate THREADS t false false small

pub loop-line-preserved : goal.loop-line-preserved
loop-line-preserved c =
    λ t small. flags_more (λ l. l.thread) c.args.lines.now c.loop-line.line-index t c.line-item.result _ _ (omega arith) c.line-item.is (c.flag_thread.ensures t small) (c.loop-line.invariant t small)
