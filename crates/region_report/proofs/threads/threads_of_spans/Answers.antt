use Rattle.region_report.proofs.Words.{arith, get_or-replicate, THREADS, span_text}
use Rattle.std.specs.Prelude.{false}
use Rattle.region_report.proofs.Flags.{flags_more_seen}
use Rattle.region_report.proofs.threads.threads_of_spans.Goals as goal

pub loop-span-init : goal.loop-span-init
loop-span-init c = λ t small. get_or-replicate THREADS t false false small

pub loop-span-preserved : goal.loop-span-preserved
loop-span-preserved c =
    λ t small. flags_more_seen span_text (λ s. s.line.thread) c.args.spans.now c.loop-span.span-index t c.span-item.result _ _ (omega arith) c.span-item.is (c.flag_thread.ensures t small) (c.loop-span.invariant t small)
