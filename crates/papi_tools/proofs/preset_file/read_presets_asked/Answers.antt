use Rattle.papi_tools.proofs.Words.{◌≡◌, Err, None, Ok, Some, refl, rules, presets_of, Is, and_then, file_bytes, opened, TABLE_BYTES}
use Rattle.papi_tools.proofs.FindingLemmas.{failed, failed_after, leads_on, plain}
use Rattle.papi_tools.proofs.HoldingLemmas.{same_held}
use Rattle.papi_tools.proofs.preset_file.read_presets_asked.Goals as goal

pub returns-in_err-bytes-in-Some-clause-found : goal.returns-in_err-bytes-in-Some-clause-found
returns-in_err-bytes-in-Some-clause-found g c =
    let same : c.from_residual.result ≡ Err c.in_err-bytes-in-Some.field-0.0 = search rules in
    rw (same, c.in-Some.is) (failed c.in_err-bytes-in-Some.field-0.0 (λ o. file_bytes TABLE_BYTES o c.in-Some.words.now.file) (λ o b. and_then (presets_of c.in-Some.words.now b) (λ presets. Ok (Some presets))) _ c.in_err-bytes-in-Some.ensures.found)

pub returns-in_err-presets-in-Some-clause-found : goal.returns-in_err-presets-in-Some-clause-found
returns-in_err-presets-in-Some-clause-found g c =
    let same : c.from_residual-in_err-presets-in-Some.result ≡ Err c.in_err-presets-in-Some.field-0.0 = search rules in
    rw (same, c.in-Some.is) (failed_after Is c.in_ok-bytes-in-Some.bytes c.in_ok-bytes-in-Some.bytes c.in_err-presets-in-Some.field-0.0 (λ o. file_bytes TABLE_BYTES o c.in-Some.words.now.file)
    (λ b o. and_then (presets_of c.in-Some.words.now b) (λ presets. Ok (Some presets))) opened _ _ c.in_ok-bytes-in-Some.ensures.found refl
    (failed c.in_err-presets-in-Some.field-0.0 (λ o. presets_of c.in-Some.words.now c.in_ok-bytes-in-Some.bytes) (λ o presets. Ok (Some presets)) _
    (plain (Err c.in_err-presets-in-Some.field-0.0) _ _ _ refl (rw c.as_slice.ensures at c.in_err-presets-in-Some.ensures.told))))

pub returns-in_ok-presets-in-Some-clause-found : goal.returns-in_ok-presets-in-Some-clause-found
returns-in_ok-presets-in-Some-clause-found g c =
    rw c.in-Some.is (leads_on Is Is c.in_ok-bytes-in-Some.bytes c.in_ok-bytes-in-Some.bytes (Ok (Some c.in_ok-presets-in-Some.presets)) (λ o. file_bytes TABLE_BYTES o c.in-Some.words.now.file)
    (λ b o. and_then (presets_of c.in-Some.words.now b) (λ presets. Ok (Some presets))) opened (λ o. o) _ _ _ c.in_ok-bytes-in-Some.ensures.found refl
    (leads_on Is Is c.in_ok-presets-in-Some.presets c.in_ok-presets-in-Some.presets (Ok (Some c.in_ok-presets-in-Some.presets)) (λ o. presets_of c.in-Some.words.now c.in_ok-bytes-in-Some.bytes) (λ presets o. Ok (Some presets)) (λ o. o) (λ o. o) _ _ _
    (plain (Ok c.in_ok-presets-in-Some.presets) _ _ _ refl (rw c.as_slice.ensures at c.in_ok-presets-in-Some.ensures.told)) refl
    (plain (Ok (Some c.in_ok-presets-in-Some.presets)) _ _ _ refl refl)))

pub returns-in-None-clause-found : goal.returns-in-None-clause-found
returns-in-None-clause-found g c = rw c.in-None.is (plain (Ok None) (Ok None) _ _ refl refl)

pub returns-in-None-clause-held : goal.returns-in-None-clause-held
returns-in-None-clause-held g c = same_held _ _ refl
