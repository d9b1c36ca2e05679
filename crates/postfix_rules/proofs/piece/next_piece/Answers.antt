use Rattle.postfix_rules.proofs.Words.{◌∙◌, ◌∷◌, ◌-◌, ◌+◌, take, drop, length, sym, ap, part_of, parts_of, Text}
use Rattle.postfix_rules.proofs.Pieces.{parts-cut_rest}
use Rattle.postfix_rules.proofs.piece.next_piece.Goals as goal

pub returns-in-Some-clause-parts : goal.returns-in-Some-clause-parts
returns-in-Some-clause-parts c =
    let text = c.args.text.now in
    let n = c.in-Some.end in
    parts-cut_rest text n (sym c.in-Some.ensures)
    ∙ ap (λ (p : Text). part_of p ∷ parts_of (take (length text - (n + 1)) (drop (n + 1) text))) (sym c.trimmed.ensures)
