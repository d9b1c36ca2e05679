use Rattle.papi_tools.proofs.Words.{◌≡◌, Err, Ok, rules, bytes_of, file_bytes, tape_under, CannotRead, TooLarge}
use Rattle.papi_base.specs.declared.whole.WholeFault.TheVariants as whole
use Rattle.papi_tools.specs.declared.refusal.Stop.TheVariants.{Refused}
use Rattle.papi_tools.proofs.FindingLemmas.{failed}
use Rattle.papi_tools.proofs.ReadingLemmas.{faulty_tape, large_tape, read_on, whole_tape}
use Rattle.papi_tools.proofs.opening.whole_file.Goals as goal

pub returns-in_err-source-clause-found : goal.returns-in_err-source-clause-found
unfolding file_bytes
returns-in_err-source-clause-found g c =
    let same : c.from_residual.result ≡ Err c.in_err-source.field-0.0 = search rules in
    rw same (failed c.in_err-source.field-0.0 (λ o. tape_under o c.args.name.now) (λ o. bytes_of c.args.limit c.args.name.now) _ c.in_err-source.ensures.found)

pub returns-in-Ok-clause-found : goal.returns-in-Ok-clause-found
returns-in-Ok-clause-found g c =
    rw c.new.ensures (read_on g.F.S.Source.tape c.in_ok-source.source c.args.limit c.args.name.now (Ok c.in-Ok.bytes.items) _ _ _ c.in_ok-source.ensures.found c.close_source.ensures.held
    (whole_tape _ c.args.limit c.args.name.now _ c.in-Ok.ensures.whole c.in-Ok.ensures.small))

pub returns-in_ok-copy_of-in-Err-TooLarge-clause-found : goal.returns-in_ok-copy_of-in-Err-TooLarge-clause-found
returns-in_ok-copy_of-in-Err-TooLarge-clause-found g c =
    let is : c.read_whole-answer.result ≡ Err whole.TooLarge = search rules in
    read_on g.F.S.Source.tape c.in_ok-source.source c.args.limit c.args.name.now (Err (Refused (TooLarge c.in_ok-copy_of-in-Err-TooLarge.field-0))) _ _ _ c.in_ok-source.ensures.found c.close_source.ensures.held
    (large_tape _ c.args.limit c.args.name.now _ c.read_whole-answer.result c.in_ok-copy_of-in-Err-TooLarge.ensures is c.read_whole-answer.ensures.whole)

pub returns-in_ok-copy_of-in-Err-Failed-clause-found : goal.returns-in_ok-copy_of-in-Err-Failed-clause-found
returns-in_ok-copy_of-in-Err-Failed-clause-found g c =
    let is : c.read_whole-answer.result ≡ Err whole.Failed = search rules in
    read_on g.F.S.Source.tape c.in_ok-source.source c.args.limit c.args.name.now (Err (Refused (CannotRead c.in_ok-copy_of-in-Err-Failed.field-0))) _ _ _ c.in_ok-source.ensures.found c.close_source.ensures.held
    (faulty_tape _ c.args.limit c.args.name.now _ c.read_whole-answer.result c.in_ok-copy_of-in-Err-Failed.ensures is c.read_whole-answer.ensures.whole)
