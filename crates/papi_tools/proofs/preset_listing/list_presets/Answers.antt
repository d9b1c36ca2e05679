use Rattle.papi_tools.proofs.Words.{Ok, Some, rules, avail_verdict, presets_said, after_tables, catalog_under}
use Rattle.papi_tools.proofs.FindingLemmas.{answered, refused_first}
use Rattle.papi_tools.proofs.preset_listing.list_presets.Goals as goal

pub returns-in_err-catalog-clause-said : goal.returns-in_err-catalog-clause-said
unfolding avail_verdict
returns-in_err-catalog-clause-said g c =
    refused_first c.from_residual.result c.in_err-catalog.field-0.0 (λ o. catalog_under o c.args.words.now.unit (Some c.args.words.now.presets)) (λ o catalog. Ok (presets_said catalog c.args.words.now.available c.args.words.now.event)) _ (search rules) c.in_err-catalog.ensures.found

pub returns-clause-said : goal.returns-clause-said
unfolding avail_verdict
returns-clause-said g c =
    answered c.in_ok-catalog.catalog c.said_of.result (λ o. catalog_under o c.args.words.now.unit (Some c.args.words.now.presets)) (λ catalog. Ok (presets_said catalog c.args.words.now.available c.args.words.now.event))
    (after_tables (Some c.args.words.now.presets)) _ _ c.in_ok-catalog.ensures.found c.said_of.ensures.said
