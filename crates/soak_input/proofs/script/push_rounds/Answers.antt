use Rattle.soak_input.proofs.Words.{number_more, by_thread, round}
use Rattle.soak_input.proofs.script.push_rounds.Goals as goal

pub loop-round-preserved : goal.loop-round-preserved
loop-round-preserved c = number_more (λ _. by_thread round) _ _ _ c.loop-round._round c.loop-round.invariant c.in_ok-push_by_thread.ensures
