use Rattle.papi_tools.proofs.Words.{◌≡◌, Err, IfOk, List, Ok, Result, refl, rules, ℕ, Answers, Is, file_bytes, opened, Refusal, Stop}
use Rattle.papi_tools.proofs.FindingLemmas.{failed, leads_on, plain}
use Rattle.papi_tools.proofs.HoldingLemmas.{one_opened}
use Rattle.papi_tools.proofs.contents.read_file.Goals as goal

pub returns-in_err-bytes-clause-found : goal.returns-in_err-bytes-clause-found
returns-in_err-bytes-clause-found g c =
    let same : c.from_residual.result ≡ Err c.in_err-bytes.field-0.0 = search rules in
    rw same (failed c.in_err-bytes.field-0.0 (λ o. file_bytes c.args.limit o c.args.name.now) (λ o. g.T.FileContent.content c.args.name.now) _ c.in_err-bytes.ensures.found)

pub returns-clause-found : goal.returns-clause-found
returns-clause-found g c =
    leads_on Is Is c.in_ok-bytes.bytes c.in_ok-bytes.bytes c.parse.result (λ o. file_bytes c.args.limit o c.args.name.now) (λ b o. g.T.FileContent.content c.args.name.now b) opened (λ o. o) _ _ _ c.in_ok-bytes.ensures.found refl
    (plain c.parse.result _ _ _ refl (rw c.as_slice.ensures at c.parse.ensures.told))

-- what was read is what some bytes are
read_of : {A : Type 0} (answer : Result A Stop) (content : List ℕ → Result A Refusal) (bytes : List ℕ) → Answers answer (content bytes) → IfOk answer (λ value. (b : List ℕ) × (content b ≡ Ok value))
read_of (Ok value) content bytes h = (bytes, h)
read_of (Err s) content bytes h = tt

pub returns-clause-read : goal.returns-clause-read
returns-clause-read g c = read_of c.parse.result (g.T.FileContent.content c.args.name.now) _ c.parse.ensures.told

pub returns-in_err-bytes-clause-held : goal.returns-in_err-bytes-clause-held
returns-in_err-bytes-clause-held g c = one_opened _ _ c.in_err-bytes.ensures.held

pub returns-clause-held : goal.returns-clause-held
returns-clause-held g c = one_opened _ _ c.in_ok-bytes.ensures.held
