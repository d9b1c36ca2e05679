use Rattle.soak_input.specs.Script.{script_text}
use Rattle.soak_input.proofs.Pieces.{three}
use Rattle.soak_input.proofs.script.script_text.Goals as goal

pub returns : goal.returns
unfolding script_text
returns c = three _ _ _ _ _ _ _ c.new-text.ensures.bytes c.in_ok-push_by_thread.ensures c.in_ok-push_rounds.ensures c.in_ok-push_by_thread-2.ensures
