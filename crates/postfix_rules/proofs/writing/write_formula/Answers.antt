use Rattle.postfix_rules.proofs.Words.{◌≡◌, ◌∙◌, ◌<◌, ◌^◌, arith, ap, string_bytes, IfOk-weaker, formula_text, formula_of}
use Rattle.postfix_rules.proofs.Written.{written_read}
use Rattle.postfix_rules.proofs.writing.write_formula.Goals as goal

pub returns-clause-back : goal.returns-clause-back
returns-clause-back c =
    let f = c.args.f.now in
    let few : f.natives < 2 ^ 32 = omega (arith, c.natives-natives.type_inv, c.natives-natives.ensures.natives) in
    IfOk-weaker c.tokens_text.result (λ s. string_bytes s ≡ formula_text f.tokens) _
    (λ s e. ap (formula_of f.natives) e ∙ written_read f few c.tokens.ensures.formula) (rw c.tokens.ensures.tokens at c.tokens_text.ensures)
