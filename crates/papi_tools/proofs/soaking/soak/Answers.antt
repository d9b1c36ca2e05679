use Rattle.papi_tools.proofs.Words.{◌≡◌, Err, rules, soaked, Memory}
use Rattle.papi_tools.proofs.FindingLemmas.{some_openings}
use Rattle.papi_tools.proofs.SettlingLemmas.{text_shows}
use Rattle.papi_tools.proofs.SoakLemmas.{run_comes, run_refused, said_told}
use Rattle.papi_tools.proofs.StepLemmas.{tells_all}
use Rattle.papi_tools.proofs.TellingLemmas.{none_grown}
use Rattle.papi_tools.proofs.soaking.soak.Goals as goal

pub returns-in_err-run-clause-tells : goal.returns-in_err-run-clause-tells
returns-in_err-run-clause-tells g c held before after =
    let same : c.from_residual.result ≡ Err c.in_err-run.field-0.0 = search rules in
    let (o, can) = some_openings held in
    rw same (record { ran = (o, can, run_refused c.args.words.now c.get.result c.in_err-run.field-0.0 _ c.get.ensures.number c.in_err-run.ensures.told); grown = none_grown _; shows = tt })

pub returns-in_err-ran-clause-tells : goal.returns-in_err-ran-clause-tells
unfolding soaked
returns-in_err-ran-clause-tells g c held before after =
    let same : c.from_residual-in_err-ran.result ≡ Err Memory = search rules in
    let (o, can) = some_openings held in
    rw same (record {
      ran = (o, can, run_comes c.args.words.now c.get.result _ _ _ _ _ (Err Memory) c.get.ensures.number c.in_ok-run.ensures.told (λ given is. record { said = tt; told = (c.in_err-ran.ensures.told given is).begun }));
      grown = c.in_err-ran.ensures.grown;
      shows = tt;
    })

pub returns-clause-tells : goal.returns-clause-tells
unfolding soaked
returns-clause-tells g c held before after =
    let (o, can) = some_openings held in
    record {
      ran = (
        o,
        can,
        run_comes c.args.words.now c.get.result _ _ _ _ _ c.said_of.result c.get.ensures.number c.in_ok-run.ensures.told (λ given is.
            let ran = c.in_ok-ran.ensures.told given is in
            record {
              said = said_told _ c.args.handlers.now _ given _ _ c.said_of.result c.requires.handlers ran.replies c.in_ok-ran.ensures.noted ran.notes c.said_of.ensures.said;
              told = tells_all c.said_of.result _ _ _ ran.notes;
            }),
      );
      grown = c.in_ok-ran.ensures.grown;
      shows = text_shows ⊥ c.said_of.result before after c.said_of.ensures.textual;
    }
