use Rattle.papi_tools.proofs.Words.{Err, IfOk, Ok, Result, RanScript}
use Rattle.papi_tools.proofs.FaultLemmas.{SomeFault}
use Rattle.papi_tools.proofs.script_run.run_and_close.Goals as goal

shown_on : {E : Type 0} (Q R : Type 0) (answer : Result RanScript E) → IfOk answer (λ ran. SomeFault ran.lines → Q) → (Q → R) → IfOk answer (λ ran. SomeFault ran.lines → R)
shown_on Q R (Ok ran) h rose = λ some. rose (h some)
shown_on Q R (Err e) h rose = tt

pub returns-clause-faulty : goal.returns-clause-faulty
returns-clause-faulty g c = shown_on _ _ c.run_script-answer.result c.run_script-answer.ensures.faulty c.close_readers.ensures.faulty
