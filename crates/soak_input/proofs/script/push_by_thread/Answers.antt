use Rattle.soak_input.proofs.Words.{map, number_more, call_lines}
use Rattle.soak_input.proofs.script.push_by_thread.Goals as goal

pub loop-thread-preserved : goal.loop-thread-preserved
loop-thread-preserved c =
    number_more (call_lines (map (λ s. s.now) c.args.calls.now)) _ _ _ c.loop-thread.thread c.loop-thread.invariant c.in_ok-push_calls.ensures
