use Rattle.papi_tools.proofs.Words.{Ok, rules, unit_under, native_avail_verdict, natives_said, opened}
use Rattle.papi_tools.proofs.FindingLemmas.{answered, refused_first}
use Rattle.papi_tools.proofs.native_listing.list_natives.Goals as goal

pub returns-in_err-tables-clause-said : goal.returns-in_err-tables-clause-said
unfolding native_avail_verdict
returns-in_err-tables-clause-said g c =
    refused_first c.from_residual.result c.in_err-tables.field-0.0 (λ o. unit_under o c.args.words.now.unit) (λ o tables. Ok (natives_said tables c.args.words.now c.args.words.now.event)) _ (search rules) (rw c.as_str.ensures at c.in_err-tables.ensures.found)

pub returns-clause-said : goal.returns-clause-said
unfolding native_avail_verdict
returns-clause-said g c =
    answered c.in_ok-tables.tables c.said_of.result (λ o. unit_under o c.args.words.now.unit) (λ tables. Ok (natives_said tables c.args.words.now c.args.words.now.event)) opened _ _
    (rw c.as_str.ensures at c.in_ok-tables.ensures.found) c.said_of.ensures.said
