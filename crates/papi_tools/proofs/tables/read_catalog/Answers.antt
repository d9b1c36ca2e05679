use Rattle.papi_tools.proofs.Words.{◌≡◌, Err, Ok, refl, rules, option_copied, catalog_of, after_presets, catalog_under, catalog_with, presets_asked}
use Rattle.papi_tools.proofs.Words.{unit_under, Is, opened, Memory}
use Rattle.papi_tools.proofs.FindingLemmas.{failed, failed_after, leads_on, plain}
use Rattle.papi_tools.proofs.HoldingLemmas.{both_held}
use Rattle.papi_tools.proofs.tables.read_catalog.Goals as goal

pub returns-in_err-tables-clause-found : goal.returns-in_err-tables-clause-found
unfolding catalog_under
returns-in_err-tables-clause-found g c =
    let same : c.from_residual.result ≡ Err c.in_err-tables.field-0.0 = search rules in
    rw same (failed c.in_err-tables.field-0.0 (λ o. unit_under o c.args.unit.now) (λ o tables. catalog_with tables (option_copied c.args.presets) (opened o)) _ (rw c.as_str.ensures at c.in_err-tables.ensures.found))

pub returns-in_err-presets-clause-found : goal.returns-in_err-presets-clause-found
unfolding catalog_under
returns-in_err-presets-clause-found g c =
    let same : c.from_residual-in_err-presets.result ≡ Err c.in_err-presets.field-0.0 = search rules in
    rw same (failed_after Is c.in_ok-tables.tables c.in_ok-tables.tables c.in_err-presets.field-0.0 (λ o. unit_under o c.args.unit.now) (λ tables. catalog_with tables (option_copied c.args.presets)) opened _ _ (rw c.as_str.ensures at c.in_ok-tables.ensures.found) refl
    (failed c.in_err-presets.field-0.0 (λ o. presets_asked o (option_copied c.args.presets)) (λ o asked. Ok (catalog_of c.in_ok-tables.tables asked)) _ c.in_err-presets.ensures.found))

pub returns-in_err-catalog-clause-found : goal.returns-in_err-catalog-clause-found
returns-in_err-catalog-clause-found g c =
    let same : c.from_residual-in_err-catalog.result ≡ Err Memory = search rules in
    rw same tt

pub returns-clause-found : goal.returns-clause-found
unfolding catalog_under
returns-clause-found g c =
    leads_on Is Is c.in_ok-tables.tables c.in_ok-tables.tables (Ok c.in_ok-catalog.catalog) (λ o. unit_under o c.args.unit.now) (λ tables. catalog_with tables (option_copied c.args.presets)) opened (after_presets (option_copied c.args.presets)) _ _ _ (rw c.as_str.ensures at c.in_ok-tables.ensures.found) refl
    (leads_on Is Is c.in_ok-presets.presets c.in_ok-presets.presets (Ok c.in_ok-catalog.catalog) (λ o. presets_asked o (option_copied c.args.presets)) (λ asked o. Ok (catalog_of c.in_ok-tables.tables asked)) (after_presets (option_copied c.args.presets)) (λ o. o) _ _ _ c.in_ok-presets.ensures.found refl
    (plain (Ok c.in_ok-catalog.catalog) (Ok (catalog_of c.in_ok-tables.tables c.in_ok-presets.presets)) _ _ refl (search rules)))

pub returns-in_err-presets-clause-held : goal.returns-in_err-presets-clause-held
returns-in_err-presets-clause-held g c = both_held _ _ _ c.in_ok-tables.ensures.held c.in_err-presets.ensures.held

pub returns-in_err-catalog-clause-held : goal.returns-in_err-catalog-clause-held
returns-in_err-catalog-clause-held g c = both_held _ _ _ c.in_ok-tables.ensures.held c.in_ok-presets.ensures.held

pub returns-clause-held : goal.returns-clause-held
returns-clause-held g c = both_held _ _ _ c.in_ok-tables.ensures.held c.in_ok-presets.ensures.held
