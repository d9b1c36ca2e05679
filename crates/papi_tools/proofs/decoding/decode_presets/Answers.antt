use Rattle.papi_tools.proofs.Words.{Err, List, Ok, Option, Result, refl, rules, ℕ, Held, ComponentText, DecodeWords, Answers, ForSome, Is, Leads}
use Rattle.papi_tools.proofs.Words.{file_bytes, opened, unit_under, decode_verdict, decoded_in, decoded_said, decoded_with, shown_in, TABLE_BYTES}
use Rattle.papi_tools.proofs.Words.{Stop, Said}
use Rattle.papi_tools.proofs.FindingLemmas.{answered, plain, refused_first, so_after}
use Rattle.papi_tools.proofs.HoldingLemmas.{both_held}
use Rattle.papi_tools.proofs.decoding.decode_presets.Goals as goal

-- the unit was read
with_unit : (words : DecodeWords) (tables : List ComponentText) (answer : Result Said Stop) (before mid : Option Held) → Leads Is (Ok tables) (λ o. unit_under o words.unit) opened before mid →
    ForSome mid (λ o. Answers answer (decoded_with words tables o)) → ForSome before (λ o. Answers answer (decode_verdict o words))
unfolding decode_verdict
with_unit words tables answer before mid = so_after (λ e. Answers answer e) tables (λ o. unit_under o words.unit) (λ t. decoded_with words t) opened before mid

-- and the preset file
with_file : (words : DecodeWords) (tables : List ComponentText) (bytes : List ℕ) (answer : Result Said Stop) (before mid : Option Held) → Leads Is (Ok bytes) (λ o. file_bytes TABLE_BYTES o words.presets.file) opened before mid →
    ForSome mid (λ o. Answers answer (decoded_in words tables bytes)) → ForSome before (λ o. Answers answer (decoded_with words tables o))
with_file words tables bytes answer before mid = so_after (λ e. Answers answer e) bytes (λ o. file_bytes TABLE_BYTES o words.presets.file) (λ b o. decoded_in words tables b) opened before mid

pub returns-in_err-tables-clause-said : goal.returns-in_err-tables-clause-said
unfolding decode_verdict
returns-in_err-tables-clause-said g c =
    refused_first c.from_residual.result c.in_err-tables.field-0.0 (λ o. unit_under o c.args.words.now.unit) (λ o tables. decoded_with c.args.words.now tables (opened o)) _ (search rules) (rw c.as_str.ensures at c.in_err-tables.ensures.found)

pub returns-in_err-bytes-clause-said : goal.returns-in_err-bytes-clause-said
returns-in_err-bytes-clause-said g c =
    with_unit c.args.words.now c.in_ok-tables.tables _ _ _ (rw c.as_str.ensures at c.in_ok-tables.ensures.found)
    (refused_first c.from_residual-in_err-bytes.result c.in_err-bytes.field-0.0 (λ o. file_bytes TABLE_BYTES o c.args.words.now.presets.file) (λ o. decoded_in c.args.words.now c.in_ok-tables.tables) _ (search rules) c.in_err-bytes.ensures.found)

pub returns-in_err-presets-clause-said : goal.returns-in_err-presets-clause-said
returns-in_err-presets-clause-said g c =
    with_unit c.args.words.now c.in_ok-tables.tables _ _ _ (rw c.as_str.ensures at c.in_ok-tables.ensures.found)
    (with_file c.args.words.now c.in_ok-tables.tables c.in_ok-bytes.bytes _ _ _ c.in_ok-bytes.ensures.found
    (refused_first c.from_residual-in_err-presets.result c.in_err-presets.field-0.0 (λ o. shown_in c.args.words.now c.in_ok-tables.tables c.in_ok-bytes.bytes) (λ o presets. Ok (decoded_said presets)) _ (search rules)
    (plain (Err c.in_err-presets.field-0.0) _ _ _ refl (rw c.as_slice.ensures at c.in_err-presets.ensures.told))))

pub returns-clause-said : goal.returns-clause-said
returns-clause-said g c =
    with_unit c.args.words.now c.in_ok-tables.tables _ _ _ (rw c.as_str.ensures at c.in_ok-tables.ensures.found)
    (with_file c.args.words.now c.in_ok-tables.tables c.in_ok-bytes.bytes _ _ _ c.in_ok-bytes.ensures.found
    (answered c.in_ok-presets.presets c.said_of.result (λ o. shown_in c.args.words.now c.in_ok-tables.tables c.in_ok-bytes.bytes) (λ presets. Ok (decoded_said presets)) (λ o. o) _ _
    (plain (Ok c.in_ok-presets.presets) _ _ _ refl (rw c.as_slice.ensures at c.in_ok-presets.ensures.told)) c.said_of.ensures.said))

pub returns-in_err-bytes-clause-held : goal.returns-in_err-bytes-clause-held
returns-in_err-bytes-clause-held g c = both_held _ _ _ c.in_ok-tables.ensures.held c.in_err-bytes.ensures.held

pub returns-in_err-presets-clause-held : goal.returns-in_err-presets-clause-held
returns-in_err-presets-clause-held g c = both_held _ _ _ c.in_ok-tables.ensures.held c.in_ok-bytes.ensures.held

pub returns-clause-held : goal.returns-clause-held
returns-clause-held g c = both_held _ _ _ c.in_ok-tables.ensures.held c.in_ok-bytes.ensures.held
