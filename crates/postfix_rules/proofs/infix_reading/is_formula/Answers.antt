use Rattle.postfix_rules.proofs.Words.{◌∙◌, ◌≤◌, length, sym, ap, arith, is_some}
use Rattle.postfix_rules.proofs.InfixEnds.{checked, formula-iff, no-formula, none-checked}
use Rattle.postfix_rules.proofs.infix_reading.is_formula.Goals as goal

pub loop-i-init : goal.loop-i-init
loop-i-init c = none-checked c.args.natives c.args.tokens.now

pub returns-then-is_some : goal.returns-then-is_some
returns-then-is_some c = (
  λ t. cc t,
  λ f. absurd (no-formula c.args.natives c.args.tokens.now c.loop-i.i c.loop-i.height _ c.loop-i-test.true
      (ap is_some (sym c.token_cause.ensures) ∙ sym c.is_some.ensures ∙ c.if-is_some.true) c.loop-i.invariant f),
)

pub loop-i-preserved : goal.loop-i-preserved
loop-i-preserved c =
    rw c.height_after-height.ensures
    (checked c.args.natives c.args.tokens.now c.loop-i.i c.loop-i.height _ c.loop-i-test.true (ap is_some (sym c.token_cause.ensures) ∙ sym c.is_some.ensures ∙ c.if-is_some.false) c.loop-i.invariant)

pub returns : goal.returns
returns c =
    let le : length c.args.tokens.now ≤ c.loop-i.i = omega arith in
    formula-iff c.args.natives c.args.tokens.now c.loop-i.i c.loop-i.height c.is_none.result (ap is_some (sym c.end_cause.ensures) ∙ c.is_none.ensures) le c.loop-i.invariant
