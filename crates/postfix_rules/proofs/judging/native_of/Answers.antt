use Rattle.postfix_rules.proofs.Words.{◌≡◌, ◌∙◌, false, sym, arith, digits_value, is_numeral}
use Rattle.postfix_rules.proofs.Digits.{held, native-large, none-unknown, wide}
use Rattle.postfix_rules.proofs.judging.native_of.Goals as goal

pub returns-then-not-is_numeral : goal.returns-then-not-is_numeral
returns-then-not-is_numeral c natives height lt =
    let no : is_numeral c.args.digits.now ≡ false = sym c.is_numeral.ensures ∙ c.if-not-is_numeral.true in
    rw no (none-unknown natives height)

pub returns-in_default : goal.returns-in_default
returns-in_default c natives height lt =
    let is = held (digits_value 10 c.args.digits.now) c.in-Some.i c.in-Some.ensures in
    native-large c.args.digits.now natives height (sym c.is_numeral.ensures ∙ c.if-not-is_numeral.false) lt (omega (arith, is, c.if-i.false))

pub returns-in_default-2 : goal.returns-in_default-2
returns-in_default-2 c natives height lt =
    let le = wide (digits_value 10 c.args.digits.now) c.in_default.ensures in
    native-large c.args.digits.now natives height (sym c.is_numeral.ensures ∙ c.if-not-is_numeral.false) lt (omega (arith, le))
