use Rattle.papi_tools.proofs.Words.{◌≡◌, Err, Ok, refl, rules, CanEachCome, content_under, Is, opened, CanBeGivenRun, given_with, streams_under}
use Rattle.papi_tools.proofs.Words.{SCRIPT_BYTES}
use Rattle.papi_tools.proofs.FindingLemmas.{ends_after, ends_with, failed, failed_after}
use Rattle.papi_tools.proofs.HoldingLemmas.{both_held}
use Rattle.papi_tools.proofs.RunLemmas.{given_is}
use Rattle.papi_tools.proofs.input.open_input.Goals as goal

pub returns-in_err-script-clause-found : goal.returns-in_err-script-clause-found
returns-in_err-script-clause-found g c catalog =
    let same : c.from_residual.result ≡ Err c.in_err-script.field-0.0 = search rules in
    rw same (failed c.in_err-script.field-0.0 (λ o. content_under SCRIPT_BYTES g.T.FileContent.content o c.args.script.now) (λ o script. given_with catalog c.args.streams.now script (opened o)) _
    (rw c.as_str.ensures at c.in_err-script.ensures.found))

pub returns-in_err-readers-clause-found : goal.returns-in_err-readers-clause-found
returns-in_err-readers-clause-found g c catalog =
    let same : c.from_residual-in_err-readers.result ≡ Err c.in_err-readers.field-0.0 = search rules in
    rw same (failed_after Is c.in_ok-script.script c.in_ok-script.script c.in_err-readers.field-0.0 (λ o. content_under SCRIPT_BYTES g.T.FileContent.content o c.args.script.now) (λ script. given_with catalog c.args.streams.now script) opened _ _
    (rw c.as_str.ensures at c.in_ok-script.ensures.found) refl
    (failed c.in_err-readers.field-0.0 (λ o. streams_under o c.args.streams.now) (λ o streams. Ok (record { catalog = catalog; script = c.in_ok-script.script; streams = streams })) _ c.in_err-readers.ensures.found))

pub returns-clause-found : goal.returns-clause-found
returns-clause-found g c catalog =
    ends_after Is (λ (x : Unit {0}) given. CanBeGivenRun catalog c.in_ok-script.script c.in_ok-readers.readers.items given) c.in_ok-script.script c.in_ok-script.script (Ok tt)
    (λ o. content_under SCRIPT_BYTES g.T.FileContent.content o c.args.script.now) (λ script. given_with catalog c.args.streams.now script) opened _ _ (rw c.as_str.ensures at c.in_ok-script.ensures.found) refl
    (ends_with (λ (x : Unit {0}) streams. CanEachCome c.in_ok-readers.readers.items streams) (λ (x : Unit {0}) given. CanBeGivenRun catalog c.in_ok-script.script c.in_ok-readers.readers.items given) tt tt (λ o. streams_under o c.args.streams.now)
    (λ streams. record { catalog = catalog; script = c.in_ok-script.script; streams = streams }) _ c.in_ok-readers.ensures.found (λ given is. (given.streams, is.can_come, given_is _ _ _ given is)))

pub returns-in_err-readers-clause-held : goal.returns-in_err-readers-clause-held
returns-in_err-readers-clause-held g c = both_held _ _ _ c.in_ok-script.ensures.held c.in_err-readers.ensures.held

pub returns-clause-held : goal.returns-clause-held
returns-clause-held g c = both_held _ _ _ c.in_ok-script.ensures.held c.in_ok-readers.ensures.held
