use Rattle.postfix_rules.proofs.Words.{◌∙◌, FitsSigned, ap, to_z-of_z, w64, formula_value}
use Rattle.postfix_rules.proofs.TreeValues.{trees_valued}
use Rattle.postfix_rules.proofs.stack.eval.Goals as goal

pub returns-clause-tree : goal.returns-clause-tree
returns-clause-tree c tree spells =
    let counts = c.args.counts.now in
    let fits : FitsSigned w64 c.value_on_stack.result = record { sfits = c.value_on_stack.type_inv } in
    to_z-of_z fits ∙ c.value_on_stack.ensures ∙ ap (formula_value counts) c.tokens.ensures.tokens ∙ trees_valued counts c.args.f.now.tokens tree spells
