use Rattle.std.proofs.Common.{rules}
use Rattle.papi_tools.proofs.CarriedLemmas.{not_begun, without_telling}
use Rattle.papi_tools.proofs.tool.quiet_tool.Goals as goal

pub returns-in_default : goal.returns-in_default
returns-in_default g c = not_begun _ _ _ _

pub returns-then-is_err : goal.returns-then-is_err
returns-then-is_err g c = not_begun _ _ _ _

pub returns : goal.returns
returns g c =
    let done = without_telling _ _ _ _ _ _ _ _ _ _ c.telling_tool.ensures.carries_out in
    search rules
