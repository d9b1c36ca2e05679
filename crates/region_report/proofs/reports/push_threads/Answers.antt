use Rattle.region_report.proofs.Words.{map, number_more, thread_text, span_text}
use Rattle.region_report.proofs.reports.push_threads.Goals as goal

pub loop-thread-preserved : goal.loop-thread-preserved
loop-thread-preserved c =
    let spans = map span_text c.args.spans.now in
    number_more (thread_text c.args.events spans) _ _ _ c.loop-thread.thread c.loop-thread.invariant
    c.in_ok-push_regions.ensures
