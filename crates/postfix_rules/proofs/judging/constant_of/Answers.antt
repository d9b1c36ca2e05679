use Rattle.postfix_rules.proofs.Words.{arith, digits_value}
use Rattle.postfix_rules.proofs.Digits.{constant-large, wide}
use Rattle.postfix_rules.proofs.judging.constant_of.Goals as goal

pub returns-in-None : goal.returns-in-None
returns-in-None c natives height lt =
    let le = wide (digits_value 10 c.args.digits.now) c.in-None.ensures in
    constant-large c.args.digits.now natives height (omega (arith, le))
