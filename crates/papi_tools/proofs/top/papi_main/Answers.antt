use Rattle.papi_tools.proofs.CarriedLemmas.{carried_out, ran_out}
use Rattle.papi_tools.proofs.top.papi_main.Goals as goal

pub returns-in-Ok-clause-carries_out : goal.returns-in-Ok-clause-carries_out
returns-in-Ok-clause-carries_out g c =
    carried_out _ c.say.result _ _ _ _ _ _ _ _ c.in-Ok.said c.in-Ok.ensures.said c.in-Ok.ensures.grown c.say.ensures.says c.in-Ok.ensures.shows c.say.ensures.cause c.in-Ok.ensures.returned c.in-Ok.ensures.held

pub returns-in-Err-clause-carries_out : goal.returns-in-Err-clause-carries_out
returns-in-Err-clause-carries_out g c = ran_out _ _ _ _ _ _ _ _ c.in-Err.ensures.said c.in-Err.ensures.grown c.in-Err.ensures.returned c.in-Err.ensures.held
