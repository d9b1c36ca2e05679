use Rattle.postfix_rules.proofs.Words.{◌≡◌, ◌==◌, false, ne_eqb}
use Rattle.postfix_rules.proofs.Digits.{none-unknown}
use Rattle.postfix_rules.proofs.judging.after_letter.Goals as goal

pub returns-else-letter-eq78 : goal.returns-else-letter-eq78
returns-else-letter-eq78 c natives height lt =
    let no : (c.args.letter == 78) ≡ false = ne_eqb c.args.letter 78 c.if-letter-eq78.false in
    rw no (none-unknown natives height)
