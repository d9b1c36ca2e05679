use Rattle.postfix_rules.proofs.Words.{rules, ◌≡◌, ◌∙◌, ◌+◌, ◌-◌, ◌%◌, pos, ◌-ℤ◌, FitsSigned, to_z, of_z, w64, slice_index_or, ap, sym, wraps}
use Rattle.postfix_rules.proofs.Words.{rule_value, wrapped}
use Rattle.postfix_rules.proofs.Sums.{less-others}
use Rattle.postfix_rules.proofs.rule.value_of.Goals as goal

pub returns-in-Sub : goal.returns-in-Sub
returns-in-Sub c =
    let x = slice_index_or c.args.counts.now 0 (pos 0) in
    let r = c.sum_of-in-Sub.result in
    let fits : FitsSigned w64 r = record { sfits = c.sum_of-in-Sub.type_inv } in
    let is : to_z w64 ((of_z w64 x + (18446744073709551616 - of_z w64 r)) % 18446744073709551616) ≡ wrapped (x -ℤ r) = search (rules, wraps) in
    record { value = is ∙ less-others c.args.counts.now r (pos 0) c.requires.some c.sum_of-in-Sub.ensures ∙ ap (λ q. rule_value q c.args.counts.now) (sym c.in-Sub.is) }
