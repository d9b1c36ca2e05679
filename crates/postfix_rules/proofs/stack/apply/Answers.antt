use Rattle.postfix_rules.proofs.Words.{rules, ◌≡◌, ◌∙◌, w64, to_z-of_z, FitsSigned, refl, int_wrapping_div, wraps}
use Rattle.postfix_rules.proofs.Divided.{div-wrapped, zero-bits}
use Rattle.postfix_rules.proofs.stack.apply.Goals as goal

pub returns-in-Plus : goal.returns-in-Plus
returns-in-Plus c = rw c.in-Plus.is (search (rules, wraps))

pub returns-in-Minus : goal.returns-in-Minus
returns-in-Minus c = rw c.in-Minus.is (search (rules, wraps))

pub returns-else-y-eq0 : goal.returns-else-y-eq0
returns-else-y-eq0 c =
    let x = to_z-of_z c.ranges.x in
    let y = to_z-of_z c.ranges.y in
    let q : FitsSigned w64 c.wrapping_div.result = record { sfits = c.wrapping_div.type_inv } in
    let is : c.wrapping_div.result ≡ int_wrapping_div w64 c.args.x c.args.y = rw (x, y) at c.wrapping_div.ensures in
    to_z-of_z q ∙ is ∙ div-wrapped c.args.x c.args.y c.ranges.x (λ e. c.if-y-eq0.false (zero-bits c.args.y e)) ∙ rw c.in-Over.is refl
