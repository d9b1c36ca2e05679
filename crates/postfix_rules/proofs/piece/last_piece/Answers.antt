use Rattle.postfix_rules.proofs.Words.{◌≡◌, ◌∙◌, ◌∷◌, ◌==◌, [], false, length, sym, ap, eqb-true, nil_from_length, part_of, parts_of, Text, trimmed}
use Rattle.postfix_rules.proofs.Pieces.{not-empty, parts-blank, parts-last, some-length}
use Rattle.postfix_rules.proofs.piece.last_piece.Goals as goal

pub returns-then-is_empty-clause-parts : goal.returns-then-is_empty-clause-parts
returns-then-is_empty-clause-parts c =
    let none = nil_from_length c.trimmed-piece.result.now (eqb-true _ _ (sym c.is_empty.ensures ∙ c.if-is_empty.true)) in
    parts-blank c.args.text.now c.requires (sym c.trimmed-piece.ensures ∙ none)

pub returns-else-is_empty-clause-parts : goal.returns-else-is_empty-clause-parts
returns-else-is_empty-clause-parts c =
    let some : (length (trimmed c.args.text.now) == 0) ≡ false = rw c.trimmed-piece.ensures at (sym c.is_empty.ensures ∙ c.if-is_empty.false) in
    parts-last c.args.text.now c.requires (not-empty (trimmed c.args.text.now) some) ∙ ap (λ (p : Text). part_of p ∷ parts_of []) (sym c.trimmed-piece.ensures)

pub returns-else-is_empty-clause-shorter : goal.returns-else-is_empty-clause-shorter
returns-else-is_empty-clause-shorter c =
    let some : (length (trimmed c.args.text.now) == 0) ≡ false = rw c.trimmed-piece.ensures at (sym c.is_empty.ensures ∙ c.if-is_empty.false) in
    some-length c.args.text.now (not-empty (trimmed c.args.text.now) some)
