use Rattle.region_report.proofs.Words.{◌∙◌, ◌++◌, Bool, [], ap, arith, string_bytes, THREADS, number_more, numbers_all, opening, thread_opening}
use Rattle.std.specs.Prelude.{if◌then◌else◌}
use Rattle.region_report.proofs.script.push_openings.Goals as goal

pub loop-thread-preserved : goal.loop-thread-preserved
loop-thread-preserved c =
    let thread = c.loop-thread.thread in
    let lines = c.args.lines.now in
    let flag = c.threads_of_lines-counting.ensures thread (omega (arith, c.loop-thread-test.true)) in
    number_more (thread_opening lines c.args.events.now) _ _ _ thread c.loop-thread.invariant
    (c.in_ok-push_thread.ensures ∙ ap (λ (counts : Bool). string_bytes c.loop-thread.text ++ (if counts then opening c.args.events.now thread else [])) flag)

pub returns : goal.returns
returns c = numbers_all (thread_opening c.args.lines.now c.args.events.now) _ _ c.loop-thread.thread THREADS (omega arith) c.loop-thread.invariant
