use Rattle.name_encoder.proofs.Words.{◌≡◌, ◌∙◌, Err, map, sym, ap, rules, Bor, Text, mask_text, all_given, given_next, saids_of, between_colons}
use Rattle.name_encoder.proofs.Words.{text_of}
use Rattle.std.specs.Prelude.{Option}
use Rattle.name_encoder.proofs.Steps.{all-done, all-step}
use Rattle.name_encoder.proofs.attribute.given_by.Goals as goal

pub returns-in_err-given : goal.returns-in_err-given
returns-in_err-given c =
    let masks = map mask_text c.args.masks.now in
    let left = ap (λ (o : Option (Bor Text)). all_given (map mask_text c.args.masks.now) c.loop-rest.given (saids_of (map mask_text c.args.masks.now) (between_colons (text_of o)))) c.in-Some.is in
    let step = all-step (map mask_text c.args.masks.now) c.loop-rest.given _ _ _ c.first_part.ensures in
    let fault = ap (given_next (λ n. all_given (map mask_text c.args.masks.now) n (saids_of (map mask_text c.args.masks.now) (between_colons (text_of c.first_part.result.1))))) (sym c.with.ensures ∙ c.in_err-given.was) in
    let same : c.from_residual.result ≡ Err c.in_err-given.field-0.0 = search rules in
    same ∙ sym (c.loop-rest.invariant ∙ left ∙ step ∙ fault)

pub loop-rest-preserved : goal.loop-rest-preserved
loop-rest-preserved c =
    let left = ap (λ (o : Option (Bor Text)). all_given (map mask_text c.args.masks.now) c.loop-rest.given (saids_of (map mask_text c.args.masks.now) (between_colons (text_of o)))) c.in-Some.is in
    let step = all-step (map mask_text c.args.masks.now) c.loop-rest.given _ _ _ c.first_part.ensures in
    let next = ap (given_next (λ n. all_given (map mask_text c.args.masks.now) n (saids_of (map mask_text c.args.masks.now) (between_colons (text_of c.first_part.result.1))))) (sym c.with.ensures ∙ c.in_ok-given.was) in
    c.loop-rest.invariant ∙ left ∙ step ∙ next

pub returns : goal.returns
returns c =
    let left = ap (λ (o : Option (Bor Text)). all_given (map mask_text c.args.masks.now) c.loop-rest.given (saids_of (map mask_text c.args.masks.now) (between_colons (text_of o)))) c.in_default.is in
    sym (c.loop-rest.invariant ∙ left ∙ all-done (map mask_text c.args.masks.now) c.loop-rest.given)
