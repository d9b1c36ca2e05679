use Rattle.postfix_rules.proofs.Words.{◌≡◌, ◌∙◌, false, sym, nil_from_length, is_numeral}
use Rattle.postfix_rules.proofs.Digits.{none-unknown}
use Rattle.postfix_rules.proofs.judging.operand_of.Goals as goal

pub returns-in-Some : goal.returns-in-Some
returns-in-Some c =
    let no : is_numeral c.args.piece.now ≡ false = sym c.is_numeral.ensures ∙ c.if-is_numeral.false in
    rw (no, c.in-Some.ensures.cases.0) c.after_letter.ensures

pub returns-in-None : goal.returns-in-None
returns-in-None c natives height lt =
    let no : is_numeral c.args.piece.now ≡ false = sym c.is_numeral.ensures ∙ c.if-is_numeral.false in
    rw (no, nil_from_length c.args.piece.now c.in-None.ensures.cases) (none-unknown natives height)
