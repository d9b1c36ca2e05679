use Rattle.std.proofs.Common.{◌≡◌, Err, rules}
use Rattle.papi_base.specs.declared.outside.OpenFail.TheVariants as open_fail
use Rattle.papi_tools.proofs.FindingLemmas.{opening_fails, opens, opens_none}
use Rattle.papi_tools.proofs.opening.open_named.Goals as goal

pub returns-in-Ok-clause-found : goal.returns-in-Ok-clause-found
returns-in-Ok-clause-found g c = opens _ _ c.args.name.now (g.F.S.Source.tape c.in-Ok.source) c.in-Ok.ensures.answer c.open_source-answer.ensures.held

pub returns-in_ok-copy_of-in-Err-Absent-clause-found : goal.returns-in_ok-copy_of-in-Err-Absent-clause-found
returns-in_ok-copy_of-in-Err-Absent-clause-found g c =
    let is : c.open_source-answer.result ≡ Err open_fail.Absent = search rules in
    opens_none g.F.S.Source.tape c.open_source-answer.result _ c.args.name.now _ is c.in_ok-copy_of-in-Err-Absent.ensures c.open_source-answer.ensures.answer

pub returns-in_ok-copy_of-in-Err-Failed-clause-found : goal.returns-in_ok-copy_of-in-Err-Failed-clause-found
returns-in_ok-copy_of-in-Err-Failed-clause-found g c =
    let is : c.open_source-answer.result ≡ Err open_fail.Failed = search rules in
    opening_fails g.F.S.Source.tape c.open_source-answer.result _ c.args.name.now _ is c.in_ok-copy_of-in-Err-Failed.ensures c.open_source-answer.ensures.answer
