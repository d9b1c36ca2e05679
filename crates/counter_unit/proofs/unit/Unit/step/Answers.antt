use Rattle.counter_unit.proofs.Words.{◌≡◌, ap, arith, length, length-take-le, subst, take, AreSelects, UnitView}
use Rattle.counter_unit.proofs.Kept.{AreSelects-now}
use Rattle.counter_unit.proofs.Steps.{plain_by_marks}
use Rattle.counter_unit.proofs.unit.Unit.step.Goals as goal

pub step_at-requires-clause-admitted : goal.step_at-requires-clause-admitted
step_at-requires-clause-admitted c =
    let u = c.self.inside in
    let h = c.self.invariant in
    let rs = take (length u.shape) u.registers in
    let long : length rs ≡ length u.shape = length-take-le (length u.shape) u.registers (omega (arith, h.few, h.long)) in
    let registers = ap (λ (v : UnitView). v.registers) c.self.view_is in
    let selects = subst (AreSelects u.selects) registers (AreSelects-now u.selects rs u.values u.bases (omega (arith, h.few, h.long_values)) (omega (arith, h.few, h.long_bases)) h.selects) in
    c.at-all.ensures c.args.self.now.registers selects

pub step_at-requires-clause-plain : goal.step_at-requires-clause-plain
step_at-requires-clause-plain c =
    let u = c.self.inside in
    let h = c.self.invariant in
    let rs = take (length u.shape) u.registers in
    let long : length rs ≡ length u.shape = length-take-le (length u.shape) u.registers (omega (arith, h.few, h.long)) in
    let registers = ap (λ (v : UnitView). v.registers) c.self.view_is in
    let selects = subst (AreSelects u.selects) registers (AreSelects-now u.selects rs u.values u.bases (omega (arith, h.few, h.long_values)) (omega (arith, h.few, h.long_bases)) h.selects) in
    plain_by_marks c.args.self.now.registers c.at-all.result u.selects.modified selects.modified

pub step_modified-requires-clause-admitted : goal.step_modified-requires-clause-admitted
step_modified-requires-clause-admitted c =
    let u = c.self.inside in
    let h = c.self.invariant in
    let rs = take (length u.shape) u.registers in
    let long : length rs ≡ length u.shape = length-take-le (length u.shape) u.registers (omega (arith, h.few, h.long)) in
    let registers = ap (λ (v : UnitView). v.registers) c.self.view_is in
    let selects = subst (AreSelects u.selects) registers (AreSelects-now u.selects rs u.values u.bases (omega (arith, h.few, h.long_values)) (omega (arith, h.few, h.long_bases)) h.selects) in
    c.at-all.ensures c.args.self.now.registers selects

pub step_modified-requires-clause-plain : goal.step_modified-requires-clause-plain
step_modified-requires-clause-plain c =
    let u = c.self.inside in
    let h = c.self.invariant in
    let rs = take (length u.shape) u.registers in
    let long : length rs ≡ length u.shape = length-take-le (length u.shape) u.registers (omega (arith, h.few, h.long)) in
    let registers = ap (λ (v : UnitView). v.registers) c.self.view_is in
    let selects = subst (AreSelects u.selects) registers (AreSelects-now u.selects rs u.values u.bases (omega (arith, h.few, h.long_values)) (omega (arith, h.few, h.long_bases)) h.selects) in
    plain_by_marks c.args.self.now.registers c.at-all.result u.selects.modified selects.modified
