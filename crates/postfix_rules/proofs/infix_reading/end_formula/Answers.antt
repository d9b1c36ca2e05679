use Rattle.postfix_rules.proofs.Words.{◌≡◌, ◌∙◌, ◌<◌, length, sym, subst, arith, IsFormula, ended_tokens}
use Rattle.std.specs.Prelude.{IsTrue, true, false}
use Rattle.postfix_rules.proofs.InfixEnds.{end-deep, end-formula, end-missing, end-open}
use Rattle.postfix_rules.proofs.infix_reading.end_formula.Goals as goal

pub returns-then-must_begin : goal.returns-then-must_begin
returns-then-must_begin c =
    let must : c.args.order.must ≡ true = sym c.must_begin.ensures ∙ c.if-must_begin.true in
    rw c.fault_after.ensures (end-missing c.args.natives c.args.tokens c.args.order must)

pub returns-then-open-gt0 : goal.returns-then-open-gt0
returns-then-open-gt0 c =
    let must : c.args.order.must ≡ false = sym c.must_begin.ensures ∙ c.if-must_begin.false in
    let some : 0 < length c.args.order.outer = omega (arith, c.open.ensures, c.if-open-gt0.true) in
    rw c.fault_after-then-open-gt0.ensures (end-open c.args.natives c.args.tokens c.args.order must some)

pub returns-then-is_formula : goal.returns-then-is_formula
returns-then-is_formula c =
    let must : c.args.order.must ≡ false = sym c.must_begin.ensures ∙ c.if-must_begin.false in
    let none : length c.args.order.outer ≡ 0 = omega (arith, c.open.ensures, c.if-open-gt0.false) in
    let tokens : c.as_slice.result.now ≡ ended_tokens c.args.order = c.as_slice.ensures.value ∙ c.in_ok-postfix.ensures in
    let is : IsFormula c.args.natives c.as_slice.result.now = c.is_formula.ensures.0 c.if-is_formula.true in
    rw (c.new.ensures, c.in_ok-postfix.ensures) (end-formula c.args.natives c.args.tokens c.args.order must none (subst (IsFormula c.args.natives) tokens is))

pub returns-else-is_formula : goal.returns-else-is_formula
returns-else-is_formula c =
    let must : c.args.order.must ≡ false = sym c.must_begin.ensures ∙ c.if-must_begin.false in
    let none : length c.args.order.outer ≡ 0 = omega (arith, c.open.ensures, c.if-open-gt0.false) in
    let tokens : c.as_slice.result.now ≡ ended_tokens c.args.order = c.as_slice.ensures.value ∙ c.in_ok-postfix.ensures in
    rw c.fault_after-else-is_formula.ensures
    (end-deep c.args.natives c.args.tokens c.args.order must none (λ f. let t : IsTrue c.is_formula.result = c.is_formula.ensures.1 (subst (IsFormula c.args.natives) (sym tokens) f) in cc (c.if-is_formula.false, t)))
