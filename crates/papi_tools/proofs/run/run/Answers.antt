use Rattle.papi_tools.proofs.Words.{◌≡◌, Err, Ok, arith, rules, after_tables, catalog_under, script_under, ran_of, ran_verdict, run_verdict}
use Rattle.papi_tools.proofs.Words.{CanBeGivenRun, given_of, Memory}
use Rattle.papi_tools.proofs.FindingLemmas.{failed}
use Rattle.papi_tools.proofs.HoldingLemmas.{both_held, held_then}
use Rattle.papi_tools.proofs.RunLemmas.{run_shows, said_told, shows_later}
use Rattle.papi_tools.proofs.StepLemmas.{comes_at_end, stopped, tells_all, with_catalog}
use Rattle.papi_tools.proofs.run.run.Goals as goal

pub returns-in_err-catalog-clause-tells : goal.returns-in_err-catalog-clause-tells
unfolding run_verdict
returns-in_err-catalog-clause-tells g c =
    let words = c.args.words.now in
    let same : c.from_residual.result ≡ Err c.in_err-catalog.field-0.0 = search rules in
    rw same (stopped c.in_err-catalog.field-0.0 (λ o. run_verdict o words) _ _ _ _ _
    (failed c.in_err-catalog.field-0.0 (λ o. catalog_under o words.unit words.presets) (λ o catalog. ran_of words catalog (after_tables words.presets o)) _ (rw c.as_ref.ensures.value at c.in_err-catalog.ensures.found)))

pub returns-in_err-input-clause-tells : goal.returns-in_err-input-clause-tells
unfolding run_verdict
returns-in_err-input-clause-tells g c =
    let words = c.args.words.now in
    let catalog = c.in_ok-catalog.catalog in
    let same : c.from_residual-in_err-input.result ≡ Err c.in_err-input.field-0.0 = search rules in
    rw same (with_catalog words.unit words.presets catalog _ (ran_of words) _ _ _ _ _ _ _ (rw c.as_ref.ensures.value at c.in_ok-catalog.ensures.found) (stopped c.in_err-input.field-0.0 (ran_of words catalog) _ _ _ _ _
    (failed c.in_err-input.field-0.0 (given_of catalog (λ o. script_under o words.script) words.streams) (λ o given. Ok (ran_verdict words.notes given)) _ (rw c.as_slice.ensures.names at c.in_err-input.ensures.found catalog))))

pub returns-in_err-ran-clause-tells : goal.returns-in_err-ran-clause-tells
unfolding run_verdict ran_verdict
returns-in_err-ran-clause-tells g c =
    let words = c.args.words.now in
    let catalog = c.in_ok-catalog.catalog in
    let same : c.from_residual-in_err-ran.result ≡ Err Memory = search rules in
    let (given, can, ran) = c.in_err-ran.ensures.possible in
    rw same (with_catalog words.unit words.presets catalog _ (ran_of words) _ _ _ _ _ _ _ (rw c.as_ref.ensures.value at c.in_ok-catalog.ensures.found) (record {
      ran =
          comes_at_end (λ (x : Unit {0}) e. CanBeGivenRun catalog c.in_ok-input.input.script c.in_ok-input.input.readers.items e) tt (given_of catalog (λ o. script_under o words.script) words.streams) (ran_verdict words.notes) _ _ _ (Err Memory)
          (rw c.as_slice.ensures.names at c.in_ok-input.ensures.found catalog) (given, can, record { said = tt; told = ran.begun });
      grown = c.in_err-ran.ensures.grown;
      shows = tt;
    }))

pub returns-clause-tells : goal.returns-clause-tells
unfolding run_verdict ran_verdict
returns-clause-tells g c =
    let words = c.args.words.now in
    let catalog = c.in_ok-catalog.catalog in
    let (given, can, ran) = c.in_ok-ran.ensures.possible in
    with_catalog words.unit words.presets catalog _ (ran_of words) _ _ _ _ _ _ _ (rw c.as_ref.ensures.value at c.in_ok-catalog.ensures.found) (record {
      ran =
          comes_at_end (λ (x : Unit {0}) e. CanBeGivenRun catalog c.in_ok-input.input.script c.in_ok-input.input.readers.items e) tt (given_of catalog (λ o. script_under o words.script) words.streams) (ran_verdict words.notes) _ _ _ c.said_of.result
          (rw c.as_slice.ensures.names at c.in_ok-input.ensures.found catalog) (
            given,
            can,
            record {
              said = said_told _ c.args.handlers.now _ given catalog _ _ _ _ c.said_of.result c.requires.handlers can.catalog_is ran.replies c.in_ok-ran.ensures.marks c.in_ok-ran.ensures.noted ran.notes c.said_of.ensures.said;
              told = tells_all c.said_of.result _ _ _ ran.notes;
            },
          );
      grown = c.in_ok-ran.ensures.grown;
      shows =
          shows_later ⊥ _ _ _ c.said_of.result (let h = c.in_ok-catalog.ensures.looked.faults_stay in let k = c.in_ok-input.ensures.looked.faults_stay in omega arith) c.in_ok-ran.ensures.faults_stay
          (run_shows ⊥ _ _ _ _ _ c.said_of.result c.said_of.ensures.said c.in_ok-ran.ensures.marks c.in_ok-ran.ensures.faulty);
    })

pub returns-in_err-input-clause-held : goal.returns-in_err-input-clause-held
returns-in_err-input-clause-held g c = both_held _ _ _ c.in_ok-catalog.ensures.held c.in_err-input.ensures.held

pub returns-in_err-ran-clause-held : goal.returns-in_err-ran-clause-held
returns-in_err-ran-clause-held g c = held_then _ _ _ (both_held _ _ _ c.in_ok-catalog.ensures.held c.in_ok-input.ensures.held) c.in_err-ran.ensures.held

pub returns-clause-held : goal.returns-clause-held
returns-clause-held g c = held_then _ _ _ (both_held _ _ _ c.in_ok-catalog.ensures.held c.in_ok-input.ensures.held) c.in_ok-ran.ensures.held
