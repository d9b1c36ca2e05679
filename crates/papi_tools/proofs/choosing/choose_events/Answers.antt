use Rattle.papi_tools.proofs.Words.{Ok, rules, choice_said, chooser_verdict, after_tables, catalog_under}
use Rattle.papi_tools.proofs.FindingLemmas.{answered, refused_first}
use Rattle.papi_tools.proofs.choosing.choose_events.Goals as goal

pub returns-in_err-catalog-clause-said : goal.returns-in_err-catalog-clause-said
unfolding chooser_verdict
returns-in_err-catalog-clause-said g c =
    refused_first c.from_residual.result c.in_err-catalog.field-0.0 (λ o. catalog_under o c.args.words.now.unit c.args.words.now.presets) (λ o catalog. Ok (choice_said catalog c.args.words.now.kind c.args.words.now.events)) _ (search rules)
    (rw c.as_ref.ensures.value at c.in_err-catalog.ensures.found)

pub returns-clause-said : goal.returns-clause-said
unfolding chooser_verdict
returns-clause-said g c =
    answered c.in_ok-catalog.catalog c.said_of.result (λ o. catalog_under o c.args.words.now.unit c.args.words.now.presets) (λ catalog. Ok (choice_said catalog c.args.words.now.kind c.args.words.now.events)) (after_tables c.args.words.now.presets) _ _
    (rw c.as_ref.ensures.value at c.in_ok-catalog.ensures.found) (rw c.as_slice.ensures at c.said_of.ensures.said)
